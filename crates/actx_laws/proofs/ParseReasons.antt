-- Where the parser refuses for a reason, no program goes on within the limits that the reason puts aside.
use Rattle.std.proofs.Common.{◌≡◌, ℕ, zero, suc, ◌+◌, ◌≤◌, ◌<◌, List, [], ◌∷◌, ◌++◌, length, Bool, true, false, Some, None, cond, refl, sym, ◌∙◌, ap, arith}
use Rattle.std.specs.Prelude.{take}
use Rattle.actx_grammar.specs.declared.side.Side.{Side}
use Rattle.actx_grammar.specs.Exact.{Begins, UpTo}
use Rattle.actx_grammar.specs.Grammar.{deepest}
use Rattle.actx_grammar.specs.Lexemes.{Lexeme}
use Rattle.actx_grammar.specs.Parser.{step, Reason, unexpected, too_deep, too_many, reason, refused, carry, limits, unlisted, unlimited, is_refused, run, parse}
use Rattle.actx_grammar.specs.ParserState.{Limits, Frame, program, in_list, Mode, start, Move, refuse, go}
use Rattle.actx_grammar.specs.Tree.{Stmts, end}
use Rattle.actx_laws.proofs.ParseAll.{reads_all}
use Rattle.actx_laws.proofs.ParseLooser.{Looser}
use Rattle.actx_laws.proofs.ParseLooserModes.{move_kept}
use Rattle.actx_laws.proofs.ParseNames.{le_true}
use Rattle.actx_laws.proofs.ParseRuns.{runs, after}
use Rattle.actx_laws.proofs.ParseStops.{refused_at}

-- the reasons
unexpected_test : (a b : Bool) → cond a unexpected (cond b too_deep too_many) ≡ unexpected → a ≡ true
unexpected_test true b h = refl
unexpected_test false true h = absurd (cc)
unexpected_test false false h = absurd (cc)

deep_test : (a b : Bool) → cond a unexpected (cond b too_deep too_many) ≡ too_deep → b ≡ true
deep_test true b h = absurd (cc)
deep_test false true h = refl
deep_test false false h = absurd (cc)

unexpected_refused : (side : Side) (m : Mode) (s : List Frame) (w : Lexeme) → reason side m s w ≡ unexpected → is_refused (step unlimited side m s w) ≡ true
unexpected_refused side m s w h = unexpected_test (is_refused (step unlimited side m s w)) (is_refused (step (unlisted side) side m s w)) h

deep_refused : (side : Side) (m : Mode) (s : List Frame) (w : Lexeme) → reason side m s w ≡ too_deep → is_refused (step (unlisted side) side m s w) ≡ true
deep_refused side m s w h = deep_test (is_refused (step unlimited side m s w)) (is_refused (step (unlisted side) side m s w)) h

pub unlimited_looser : (side : Side) → Looser (limits side) unlimited
unlimited_looser side = record { deeper = λ n h. refl; longer = λ n h. refl }

pub unlisted_looser : (side : Side) → Looser (limits side) (unlisted side)
unlisted_looser side = record { deeper = λ n h. h; longer = λ n h. refl }

-- THE RUN WITHIN LOOSER LIMITS
gone : (lam : Limits) (side : Side) (ts : List Lexeme) (p : Stmts) (v : Move) → is_refused v ≡ true → after lam side ts v ≡ Some p → ⊥
gone lam side ts p refuse h w = cc
gone lam side ts p (go n u) h w = cc

here_move : (lam : Limits) (side : Side) (k i : ℕ) (why c : Reason) (ts rest : List Lexeme) (p : Stmts) (v x : Move) → i ≡ k → ((n : Mode) (u : List Frame) → run side (suc k) n u ts ≡ refused i why → suc k ≤ i) → (c ≡ why → is_refused x ≡ true)
    → carry v (λ n u. run side (suc k) n u ts) (refused k c) ≡ refused i why → after lam side rest x ≡ Some p → ⊥
here_move lam side k i why c ts rest p refuse x e on q h w = let d : c ≡ why = cc in gone lam side rest p x (q d) w
here_move lam side k i why c ts rest p (go n u) x e on q h w = let d : suc k ≤ i = on n u h in absurd (omega arith)

next_move : (lam : Limits) (side : Side) (k i j : ℕ) (why c : Reason) (ts rest : List Lexeme) (p : Stmts) (v x : Move) → i ≡ k + suc j → ((n : Mode) (u : List Frame) → v ≡ go n u → x ≡ go n u)
    → ((n : Mode) (u : List Frame) → run side (suc k) n u ts ≡ refused i why → runs lam side n u (take (suc j) ts ++ rest) ≡ Some p → ⊥)
    → carry v (λ n u. run side (suc k) n u ts) (refused k c) ≡ refused i why → after lam side (take (suc j) ts ++ rest) x ≡ Some p → ⊥
next_move lam side k i j why c ts rest p refuse x e kept on h w = let q : k ≡ i = cc in absurd (omega arith)
next_move lam side k i j why c ts rest p (go n u) x e kept on h w = on n u h (sym (ap (after lam side (take (suc j) ts ++ rest)) (kept n u refl)) ∙ w)

loose_run : (lam : Limits) (side : Side) (l : Looser (limits side) lam) (k : ℕ) (m : Mode) (s : List Frame) (ts : List Lexeme) (i j : ℕ) (why : Reason) (rest : List Lexeme) (p : Stmts) → ((n : Mode) (u : List Frame) (w : Lexeme) → reason side n u w ≡ why → is_refused (step lam side n u w) ≡ true)
    → run side k m s ts ≡ refused i why → i ≡ k + j → j < length ts → runs lam side m s (take (suc j) ts ++ rest) ≡ Some p → ⊥
loose_run lam side l k m s [] i j why rest p q h e b w = absurd (omega arith)
loose_run lam side l k m s (t ∷ ts) i zero why rest p q h e b w =
    here_move lam side k i why (reason side m s t) ts rest p (step (limits side) side m s t) (step lam side m s t) (omega arith) (λ n u y. refused_at side (suc k) n u ts i why y) (q m s t) h w
loose_run lam side l k m s (t ∷ ts) i (suc j) why rest p q h e b w =
    next_move lam side k i j why (reason side m s t) ts rest p (step (limits side) side m s t) (step lam side m s t) e (move_kept l side m s t.kind t.line_before) (λ n u y z. loose_run lam side l (suc k) n u ts i j why rest p q y (omega arith) (omega arith) z) h w

-- THE REASONS
-- no program at all goes on
pub unexpected_stops : (side : Side) (ts : List Lexeme) (i : ℕ) → parse side ts ≡ refused i unexpected → (depth : ℕ) → UpTo (Begins side None depth) i ts → ⊥
unexpected_stops side ts i h depth w =
    loose_run unlimited side (unlimited_looser side) 0 start (in_list program end 0 ∷ []) ts i i unexpected w.1.rest w.1.program (unexpected_refused side) h (omega arith) w.0
    (reads_all side None None depth w.1.program (take (suc i) ts ++ w.1.rest) (λ e. refl) (λ n e. refl) w.1.spelled)

-- none goes on within the depth, whatever its lists are
pub deep_stops : (side : Side) (ts : List Lexeme) (i : ℕ) → parse side ts ≡ refused i too_deep → UpTo (Begins side None (deepest side)) i ts → ⊥
deep_stops side ts i h w =
    loose_run (unlisted side) side (unlisted_looser side) 0 start (in_list program end 0 ∷ []) ts i i too_deep w.1.rest w.1.program (deep_refused side) h (omega arith) w.0
    (reads_all side (Some (deepest side)) None (deepest side) w.1.program (take (suc i) ts ++ w.1.rest) (λ e. refl) (λ n e. le_true n (deepest side) e) w.1.spelled)
