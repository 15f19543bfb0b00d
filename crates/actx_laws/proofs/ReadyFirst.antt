-- The tokens before the one that is refused go on, and that one goes on once the reason's limits are put aside.
use Rattle.std.proofs.Common.{◌≡◌, ℕ, suc, ◌+◌, ◌≤◌, ◌<◌, ◌⊎◌, inl, inr, List, [], ◌∷◌, ◌++◌, length, take, Bool, true, false, Option, Some, None, cond, refl, sym, ap, subst, append_assoc, arith}
use Rattle.std.proofs.lemmas.List.{append-nil}
use Rattle.std.proofs.lemmas.List.Elements.{recursion_from_All}
use Rattle.std.specs.List.{AllByRecursion}
use Rattle.actx_grammar.specs.declared.side.Side.{Side}
use Rattle.actx_grammar.specs.declared.side.Side.TheVariants.{Source, Plain}
use Rattle.actx_grammar.specs.Exact.{Begins, BeginsWithin, UpTo, InForm, IsFirst, IsReason, RefusesFirst}
use Rattle.actx_grammar.specs.Grammar.{deepest, sp_end}
use Rattle.actx_grammar.specs.Lexemes.{Lexeme, lexeme}
use Rattle.actx_grammar.specs.Parser.{step, finish, Reason, unexpected, too_deep, too_many, reason, refused, finished, carry, limits, unlisted, unlimited, is_refused, run, parse}
use Rattle.actx_grammar.specs.ParserState.{Limits, fits, takes_more, Frame, program, in_list, Mode, start, Move, refuse, go}
use Rattle.actx_grammar.specs.Tree.{Stmts, end}
use Rattle.actx_grammar.specs.Words.{HasForm}
use Rattle.actx_laws.proofs.ParseLooser.{Looser}
use Rattle.actx_laws.proofs.ParseLooserModes.{move_kept}
use Rattle.actx_laws.proofs.ParseNames.{le_from}
use Rattle.actx_laws.proofs.ParseReasons.{unlimited_looser, unlisted_looser, unexpected_stops, deep_stops}
use Rattle.actx_laws.proofs.ParseStops.{stops, refused_whole}
use Rattle.actx_laws.proofs.ReadyEnds.{Goes, goes_to_end, goes_by}
use Rattle.actx_laws.proofs.ReadyGoes.{goes}
use Rattle.actx_laws.proofs.ReadyStates.{Ready, ReadyAfter}
use Rattle.actx_laws.proofs.ReadySteps.{step_ready}
use Rattle.actx_laws.proofs.SpellDeeper.{deeper_stmts}
use Rattle.actx_laws.proofs.ViableBehind.{One}
use Rattle.actx_laws.proofs.ViableModes.{Viable, v_start, After}
use Rattle.actx_laws.proofs.ViableOpen.{op_list, own_program}
use Rattle.actx_laws.proofs.ViableParsed.{Whole, ends, one_parameter, zero_fits}
use Rattle.actx_laws.proofs.ViableSound.{step_viable}

-- A PROGRAM GOES ON
-- some program's tokens begin so
record Continued (lim : Limits) (side : Side) (p : List Lexeme) : Type 0 where
  program : Stmts
  rest : List Lexeme
  whole : Whole lim side program (p ++ rest)

continued : {lim : Limits} {side : Side} → One lim → {m : Mode} {s : List Frame} (p : List Lexeme) → Goes lim side m s → Viable lim side m s p → Continued lim side p
continued {lim} {side} one {m} {s} p (goes_to_end {p = q} e) v = record { program = q; rest = []; whole = subst (λ z. Whole lim side q z) (sym (append-nil p)) (ends m s p q v e) }
continued {lim} {side} one {m} {s} p (goes_by w f e on) v =
    let a = continued one (p ++ lexeme w false ∷ []) on (subst (λ x. After lim side x (p ++ lexeme w false ∷ [])) e (step_viable one m s p w false v f)) in
    record { program = a.program; rest = lexeme w false ∷ a.rest; whole = subst (λ z. Whole lim side a.program z) (append_assoc p (lexeme w false ∷ []) a.rest) a.whole }

-- LIMITS
-- what is read within the side's limits is read within these, and lists are not too short for any form
record Loose (side : Side) (lam : Limits) : Type 0 where
  looser : Looser (limits side) lam
  one : One lam
  lists : takes_more lam 3 ≡ true

own_limits : (side : Side) → Loose side (limits side)
own_limits Source = record { looser = record { deeper = λ n h. h; longer = λ n h. h }; one = one_parameter Source; lists = refl }
own_limits Plain = record { looser = record { deeper = λ n h. h; longer = λ n h. h }; one = one_parameter Plain; lists = refl }

without_lists : (side : Side) → Loose side (unlisted side)
without_lists side = record { looser = unlisted_looser side; one = tt; lists = refl }

without_limits : (side : Side) → Loose side unlimited
without_limits side = record { looser = unlimited_looser side; one = tt; lists = refl }

-- a ready state goes on
state_continued : {lam : Limits} {side : Side} → Loose side lam → {m : Mode} {s : List Frame} {p : List Lexeme} → Viable lam side m s p → Ready lam side m s → Continued lam side p
state_continued {lam} {side} l {m} {s} {p} v r = continued l.one p (goes lam side l.lists m s r) v

-- THE STATE BEFORE WHAT IS REFUSED
-- the token that is refused there, number j of these
record Refused (side : Side) (m : Mode) (s : List Frame) (ts : List Lexeme) (j : ℕ) (why : Reason) : Type 0 where
  token : Lexeme
  form : HasForm token.kind
  inside : j < length ts
  upto : take (suc j) ts ≡ take j ts ++ token ∷ []
  cause : reason side m s token ≡ why

record Before (lam : Limits) (side : Side) (p ts : List Lexeme) (at i : ℕ) (why : Reason) : Type 0 where
  number : ℕ
  is : i ≡ at + number
  within : number ≤ length ts
  mode : Mode
  stack : List Frame
  read : Viable lam side mode stack (p ++ take number ts)
  ready : Ready lam side mode stack
  cause : (why ≡ unexpected) ⊎ Refused side mode stack ts number why

at_end : {lam : Limits} {side : Side} (m : Mode) (s : List Frame) (p : List Lexeme) (at i : ℕ) (why : Reason) (o : Option Stmts) → Viable lam side m s p → Ready lam side m s → finished at o ≡ refused i why → Before lam side p [] at i why
at_end m s p at i why (Some q) v r h = absurd (cc)
at_end {lam} {side} m s p at i why None v r h =
    let e : at ≡ i = cc in
    record { number = 0; is = omega arith; within = omega arith; mode = m; stack = s; read = subst (λ z. Viable lam side m s z) (sym (append-nil p)) v; ready = r; cause = inl (cc) }

later : {lam : Limits} {side : Side} (w : Lexeme) (p ts : List Lexeme) (at i : ℕ) (why : Reason) → Before lam side (p ++ w ∷ []) ts (suc at) i why → Before lam side p (w ∷ ts) at i why
later {lam} {side} w p ts at i why h =
    record {
      number = suc h.number;
      is = omega (arith, h.is);
      within = omega (arith, h.within);
      mode = h.mode;
      stack = h.stack;
      read = subst (λ z. Viable lam side h.mode h.stack z) (append_assoc p (w ∷ []) (take h.number ts)) h.read;
      ready = h.ready;
      cause = pick h.cause;
    }
  where
    pick : (why ≡ unexpected) ⊎ Refused side h.mode h.stack ts h.number why → (why ≡ unexpected) ⊎ Refused side h.mode h.stack (w ∷ ts) (suc h.number) why
    pick (inl e) = inl e
    pick (inr c) = inr (record { token = c.token; form = c.form; inside = omega (arith, c.inside); upto = ap (λ z. w ∷ z) c.upto; cause = c.cause })

state_before : {lam : Limits} {side : Side} → Loose side lam → (at : ℕ) (m : Mode) (s : List Frame) (p ts : List Lexeme) (i : ℕ) (why : Reason) → AllByRecursion (λ t. HasForm t.kind) ts → Viable lam side m s p → Ready lam side m s → run side at m s ts ≡ refused i why → Before lam side p ts at i why
state_before {side = side} l at m s p [] i why f v r h = at_end m s p at i why (finish m s) v r h
state_before {lam} {side} l at m s p (w ∷ ts) i why f v r h =
    on (step (limits side) side m s w) (move_kept l.looser side m s w.kind w.line_before) h (λ n u a b c. state_before l (suc at) n u (p ++ w ∷ []) ts i why f.1 a b c)
  where
    on : (x : Move) → ((n : Mode) (u : List Frame) → x ≡ go n u → step lam side m s w ≡ go n u) → carry x (λ n u. run side (suc at) n u ts) (refused at (reason side m s w)) ≡ refused i why
        → ((n : Mode) (u : List Frame) → Viable lam side n u (p ++ w ∷ []) → Ready lam side n u → run side (suc at) n u ts ≡ refused i why → Before lam side (p ++ w ∷ []) ts (suc at) i why) → Before lam side p (w ∷ ts) at i why
    on refuse kept q next =
        let e : at ≡ i = cc in
        record { number = 0; is = omega arith; within = omega arith; mode = m; stack = s; read = subst (λ z. Viable lam side m s z) (sym (append-nil p)) v; ready = r; cause = inr (record { token = w; form = f.0; inside = omega arith; upto = refl; cause = cc }) }
    on (go n u) kept q next =
        let e : step lam side m s w ≡ go n u = kept n u refl in
        later w p ts at i why (next n u (subst (λ x. After lam side x (p ++ w ∷ [])) e (step_viable l.one m s p w.kind w.line_before v f.0)) (subst (λ x. ReadyAfter lam side x) e (step_ready lam side m s w.kind w.line_before r)) q)

-- from the beginning
begins_viable : {lam : Limits} {side : Side} → fits lam 0 ≡ true → Viable lam side start (in_list program end 0 ∷ []) []
begins_viable h = v_start (op_list {c = 0} {n = 0} own_program (omega arith) sp_end (record { reach = omega arith; within = h })) tt

begins_ready : {lam : Limits} {side : Side} → Ready lam side start (in_list program end 0 ∷ [])
begins_ready = record { mode = refl; stack = (refl, tt) }

parsed_before : {lam : Limits} (side : Side) → Loose side lam → (ts : List Lexeme) (i : ℕ) (why : Reason) → InForm ts → parse side ts ≡ refused i why → Before lam side [] ts 0 i why
parsed_before side l ts i why f h =
    state_before l 0 start (in_list program end 0 ∷ []) [] ts i why (recursion_from_All (λ t. HasForm t.kind) ts f) (begins_viable (l.looser.deeper 0 (zero_fits side))) begins_ready h

-- THE FIRST
side_begins : (side : Side) (ts : List Lexeme) → Continued (limits side) side ts → BeginsWithin side ts
side_begins side ts h = record { program = h.program; rest = h.rest; spelled = deeper_stmts h.whole.spelled (le_from h.whole.height (deepest side) h.whole.within) }

is_first : (side : Side) (ts : List Lexeme) (i : ℕ) (why : Reason) → InForm ts → parse side ts ≡ refused i why → IsFirst side ts i
is_first side ts i why f h =
    let b : Before (limits side) side [] ts 0 i why = parsed_before side (own_limits side) ts i why f h in
    let e : b.number ≡ i = omega (arith, b.is) in
    record {
      within = omega (arith, b.within);
      before = subst (λ k. BeginsWithin side (take k ts)) e (side_begins side (take b.number ts) (state_continued (own_limits side) b.read b.ready));
      stops = stops side ts i why h;
      whole = λ _. refused_whole side ts i why h;
    }

-- THE REASONS
-- the token goes on within looser limits where those don't refuse it
looser_goes : {lam : Limits} (side : Side) → Loose side lam → (ts : List Lexeme) (i : ℕ) (why : Reason) → Before lam side [] ts 0 i why → (why ≡ unexpected → ⊥)
    → ((m : Mode) (s : List Frame) (w : Lexeme) → reason side m s w ≡ why → is_refused (step lam side m s w) ≡ false) → (i < length ts) × Continued lam side (take (suc i) ts)
looser_goes {lam} side l ts i why b never gone = pick b.cause
  where
    moved : (p : List Lexeme) (x : Move) → is_refused x ≡ false → After lam side x p → ReadyAfter lam side x → Continued lam side p
    moved p refuse q a r = absurd (cc)
    moved p (go n u) q a r = state_continued l a r

    pick : (why ≡ unexpected) ⊎ Refused side b.mode b.stack ts b.number why → (i < length ts) × Continued lam side (take (suc i) ts)
    pick (inl e) = absurd (never e)
    pick (inr c) =
        let e : b.number ≡ i = omega (arith, b.is) in
        let a : Continued lam side (take b.number ts ++ c.token ∷ []) = moved (take b.number ts ++ c.token ∷ []) (step lam side b.mode b.stack c.token) (gone b.mode b.stack c.token c.cause) (step_viable l.one b.mode b.stack (take b.number ts) c.token.kind c.token.line_before b.read c.form) (step_ready lam side b.mode b.stack c.token.kind c.token.line_before b.ready) in
        (omega (arith, c.inside), subst (λ k. Continued lam side (take (suc k) ts)) e (subst (λ z. Continued lam side z) (sym c.upto) a))

deep_test : (a b : Bool) → cond a unexpected (cond b too_deep too_many) ≡ too_deep → a ≡ false
deep_test true b h = absurd (cc)
deep_test false b h = refl

many_test : (a b : Bool) → cond a unexpected (cond b too_deep too_many) ≡ too_many → b ≡ false
many_test true b h = absurd (cc)
many_test false true h = absurd (cc)
many_test false false h = refl

deep_goes : (side : Side) (m : Mode) (s : List Frame) (w : Lexeme) → reason side m s w ≡ too_deep → is_refused (step unlimited side m s w) ≡ false
deep_goes side m s w h = deep_test (is_refused (step unlimited side m s w)) (is_refused (step (unlisted side) side m s w)) h

many_goes : (side : Side) (m : Mode) (s : List Frame) (w : Lexeme) → reason side m s w ≡ too_many → is_refused (step (unlisted side) side m s w) ≡ false
many_goes side m s w h = many_test (is_refused (step unlimited side m s w)) (is_refused (step (unlisted side) side m s w)) h

-- only deeper
goes_deeper : (side : Side) (ts : List Lexeme) (i : ℕ) → InForm ts → parse side ts ≡ refused i too_deep → (depth : ℕ) × UpTo (Begins side None depth) i ts
goes_deeper side ts i f h =
    let a : (i < length ts) × Continued unlimited side (take (suc i) ts) = looser_goes side (without_limits side) ts i too_deep (parsed_before side (without_limits side) ts i too_deep f h) (λ e. cc) (deep_goes side) in
    (a.1.whole.height, (a.0, record { program = a.1.program; rest = a.1.rest; spelled = a.1.whole.spelled }))

-- only with longer lists
goes_longer : (side : Side) (ts : List Lexeme) (i : ℕ) → InForm ts → parse side ts ≡ refused i too_many → UpTo (Begins side None (deepest side)) i ts
goes_longer side ts i f h =
    let a : (i < length ts) × Continued (unlisted side) side (take (suc i) ts) = looser_goes side (without_lists side) ts i too_many (parsed_before side (without_lists side) ts i too_many f h) (λ e. cc) (many_goes side) in
    (a.0, record { program = a.1.program; rest = a.1.rest; spelled = deeper_stmts a.1.whole.spelled (le_from a.1.whole.height (deepest side) a.1.whole.within) })

is_reason : (side : Side) (ts : List Lexeme) (i : ℕ) (why : Reason) → InForm ts → parse side ts ≡ refused i why → IsReason side ts i why
is_reason side ts i unexpected f h = unexpected_stops side ts i h
is_reason side ts i too_deep f h = (goes_deeper side ts i f h, deep_stops side ts i h)
is_reason side ts i too_many f h = goes_longer side ts i f h

pub refuses_first : RefusesFirst
refuses_first side ts i why f h = (is_first side ts i why f h, is_reason side ts i why f h)
