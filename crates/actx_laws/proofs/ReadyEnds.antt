-- Every sound state goes on to the end of a program: what closes each frame.
use Rattle.std.proofs.Common.{◌≡◌, ℕ, suc, zero, ◌+◌, ◌≤◌, max, List, [], ◌∷◌, Bool, true, false, ◌&&◌, nat_le, Some, codes, cond, refl, sym, ap, ◌∙◌, arith}
use Rattle.std.proofs.lemmas.Bool.Decides.{nat_tests}
use Rattle.actx_grammar.specs.declared.operators.BinaryOp.{BinaryOp}
use Rattle.actx_grammar.specs.declared.operators.Form.{Form}
use Rattle.actx_grammar.specs.declared.operators.Form.TheVariants as f
use Rattle.actx_grammar.specs.declared.operators.LogicOp.{LogicOp}
use Rattle.actx_grammar.specs.declared.side.Side.{Side}
use Rattle.actx_grammar.specs.declared.side.Side.TheVariants.{Source, Plain}
use Rattle.actx_grammar.specs.declared.token.Keyword.TheVariants as k
use Rattle.actx_grammar.specs.declared.token.Sign.{Sign}
use Rattle.actx_grammar.specs.declared.token.Sign.TheVariants as g
use Rattle.actx_grammar.specs.declared.token.TokenKind.{TokenKind}
use Rattle.actx_grammar.specs.declared.token.TokenKind.TheVariants as t
use Rattle.actx_grammar.specs.Forms.{level_of}
use Rattle.actx_grammar.specs.Grammar.{count, with_last}
use Rattle.actx_grammar.specs.Parser.{settle_stmt, behind_standing, move, finish_standing, finish}
use Rattle.actx_grammar.specs.ParserOperands.{is_binding, least_parts, most_parts, has_room, at_need, close_paren, close_bracket, close_brace, comma, semicolon, colon, at_whole, at_have, at_member}
use Rattle.actx_grammar.specs.ParserState.{Limits, at_most, fits, takes_more, Frame, in_binary, in_logic, in_choice, in_other, in_form, Mode, have_stmt, need, have, have_member, whole, finally_next, refuse, go, go_if, here, settled, logic_level, settle}
use Rattle.actx_grammar.specs.Tree.{Expr, Num, Binary, Logic, Choice, Member, Built, Exprs, Key, Stmt, Try, Catch, no_last, Stmts}
use Rattle.actx_grammar.specs.Words.{IsName, HasForm}
use Rattle.actx_laws.proofs.ParseNames.{count_last, le_true, le_from, both, at_most_less}
use Rattle.actx_laws.proofs.ReadyStates.{wants_expr, wants_stmt, Stands, Reaches, OfOperand}
use Rattle.actx_laws.proofs.SpellNames.{plain_name}
use Rattle.actx_laws.proofs.ViableTests.{and_right}

-- the machine goes on to the end of a program
pub data Goes (lim : Limits) (side : Side) : Mode → List Frame → Type 0 where
  goes_to_end : {m : Mode} {s : List Frame} {p : Stmts} → finish m s ≡ Some p → Goes lim side m s
  goes_by : {m n : Mode} {s u : List Frame} (w : TokenKind) → HasForm w → move lim side m s w false ≡ go n u → Goes lim side n u → Goes lim side m s

pub never : {A : Type 0} → false ≡ true → A
never h = absurd (cc)

-- A NAME
abbrev pub a_word : List ℕ
a_word = codes "a"

pub a_name : IsName a_word
a_name = plain_name 97 [] refl refl refl

pub a_binding : (side : Side) → is_binding side a_word ≡ true
a_binding Source = refl
a_binding Plain = refl

pub if_goes : {b : Bool} (m : Mode) (s : List Frame) → b ≡ true → go_if b m s ≡ go m s
if_goes m s h = ap (λ c. go_if c m s) h

-- BEHIND AN EXPRESSION
abbrev pub IsCloser : Sign → Type 0
IsCloser g.CloseParen = Unit {0}
IsCloser g.CloseBracket = Unit {0}
IsCloser g.CloseBrace = Unit {0}
IsCloser g.Comma = Unit {0}
IsCloser g.Semicolon = Unit {0}
IsCloser g.Colon = Unit {0}
IsCloser _ = ⊥

pub data Closes (lim : Limits) (side : Side) (e : Expr) (r : ℕ) (s : List Frame) : Type 0 where
  closes_by : {n : Mode} {u : List Frame} (w : Sign) → IsCloser w → at_whole e r s (t.Sign w) ≡ go n u → Goes lim side n u → Closes lim side e r s

whole_same : (e f : Expr) (q r : ℕ) (s u : List Frame) (w : Sign) → settle 0 e q s ≡ settle 0 f r u → IsCloser w → at_whole e q s (t.Sign w) ≡ at_whole f r u (t.Sign w)
whole_same e f q r s u g.CloseParen h c = ap close_paren h
whole_same e f q r s u g.CloseBracket h c = ap close_bracket h
whole_same e f q r s u g.CloseBrace h c = ap close_brace h
whole_same e f q r s u g.Comma h c = ap comma h
whole_same e f q r s u g.Semicolon h c = ap semicolon h
whole_same e f q r s u g.Colon h c = ap colon h
whole_same e f q r s u _ h c = absurd c

-- what ends first ends its own frame
pub settled_closes : {lim : Limits} {side : Side} {e f : Expr} {q r : ℕ} {s u : List Frame} → settle 0 e q s ≡ settle 0 f r u → Closes lim side f r u → Closes lim side e q s
settled_closes {e = e} {f = f} {q = q} {r = r} {s = s} {u = u} h (closes_by w c i on) = closes_by w c (whole_same e f q r s u w h c ∙ i) on

closer_have : (lim : Limits) (e : Expr) (r : ℕ) (s : List Frame) (w : Sign) → IsCloser w → at_have lim e r s (t.Sign w) ≡ at_whole e r s (t.Sign w)
closer_have lim e r s g.CloseParen c = refl
closer_have lim e r s g.CloseBracket c = refl
closer_have lim e r s g.CloseBrace c = refl
closer_have lim e r s g.Comma c = refl
closer_have lim e r s g.Semicolon c = refl
closer_have lim e r s g.Colon c = refl
closer_have lim e r s _ c = absurd c

closer_member : (lim : Limits) (b : Expr) (key : Key) (r : ℕ) (s : List Frame) (w : Sign) → IsCloser w → at_member lim b key r s (t.Sign w) ≡ at_whole (Member b key) r s (t.Sign w)
closer_member lim b key r s g.CloseParen c = refl
closer_member lim b key r s g.CloseBracket c = refl
closer_member lim b key r s g.CloseBrace c = refl
closer_member lim b key r s g.Comma c = refl
closer_member lim b key r s g.Semicolon c = refl
closer_member lim b key r s g.Colon c = refl
closer_member lim b key r s _ c = absurd c

pub have_goes : {lim : Limits} {side : Side} {e : Expr} {r : ℕ} {s : List Frame} → Closes lim side e r s → Goes lim side (have e r) s
have_goes {lim} {e = e} {r = r} {s = s} (closes_by w c i on) = goes_by (t.Sign w) tt (closer_have lim e r s w c ∙ i) on

pub member_goes : {lim : Limits} {side : Side} {b : Expr} {key : Key} {r : ℕ} {s : List Frame} → Closes lim side (Member b key) r s → Goes lim side (have_member b key r) s
member_goes {lim} {b = b} {key = key} {r = r} {s = s} (closes_by w c i on) = goes_by (t.Sign w) tt (closer_member lim b key r s w c ∙ i) on

pub whole_goes : {lim : Limits} {side : Side} {e : Expr} {r : ℕ} {s : List Frame} → Closes lim side e r s → Goes lim side (whole e r) s
whole_goes (closes_by w c i on) = goes_by (t.Sign w) tt i on

-- a number where an operand is wanted
number_move : (lim : Limits) (side : Side) (s : List Frame) → fits lim (here s) ≡ true → has_room lim s ≡ true → at_need lim side s (t.Number 0) ≡ go (have (Num 0) (here s)) s
number_move lim side s h i = ap (λ b. cond b (go (have (Num 0) (here s)) s) refuse) (both (fits lim (here s)) (has_room lim s) h i)

pub number_goes : {lim : Limits} {side : Side} (s : List Frame) → fits lim (here s) ≡ true → has_room lim s ≡ true → Closes lim side (Num 0) (here s) s → Goes lim side need s
number_goes {lim} {side} s h i on = goes_by (t.Number 0) (omega arith) (number_move lim side s h i) (have_goes on)

-- BEHIND A STATEMENT
pub data Ends (lim : Limits) (side : Side) (st : Stmt) (r : ℕ) (s : List Frame) : Type 0 where
  ends_program : {p : Stmts} → finish_standing (settle_stmt st r s) ≡ Some p → Ends lim side st r s
  ends_brace : {n : Mode} {u : List Frame} → behind_standing lim side (settle_stmt st r s) (t.Sign g.CloseBrace) ≡ go n u → Goes lim side n u → Ends lim side st r s
  ends_while : {n : Mode} {u : List Frame} → behind_standing lim side (settle_stmt st r s) (t.Keyword k.While) ≡ go n u → Goes lim side n u → Ends lim side st r s

-- what ends first ends its own frame
pub settled_ends : {lim : Limits} {side : Side} {st dt : Stmt} {q r : ℕ} {s u : List Frame} → settle_stmt st q s ≡ settle_stmt dt r u → Ends lim side dt r u → Ends lim side st q s
settled_ends h (ends_program i) = ends_program (ap finish_standing h ∙ i)
settled_ends {lim} {side} h (ends_brace i on) = ends_brace (ap (λ v. behind_standing lim side v (t.Sign g.CloseBrace)) h ∙ i) on
settled_ends {lim} {side} h (ends_while i on) = ends_while (ap (λ v. behind_standing lim side v (t.Keyword k.While)) h ∙ i) on

pub stmt_goes : {lim : Limits} {side : Side} {st : Stmt} {r : ℕ} {s : List Frame} → Ends lim side st r s → Goes lim side (have_stmt st r) s
stmt_goes (ends_program i) = goes_to_end i
stmt_goes (ends_brace i on) = goes_by (t.Sign g.CloseBrace) tt i on
stmt_goes (ends_while i on) = goes_by (t.Keyword k.While) tt i on

pub caught_goes : {lim : Limits} {side : Side} {bs : Stmts} {c : Catch} {r : ℕ} {s : List Frame} → Ends lim side (Try bs c no_last) r s → Goes lim side (finally_next bs c r) s
caught_goes (ends_program i) = goes_to_end i
caught_goes (ends_brace i on) = goes_by (t.Sign g.CloseBrace) tt i on
caught_goes (ends_while i on) = goes_by (t.Keyword k.While) tt i on

-- WHAT STANDS ON A STACK GOES ON
pub record Enough (lim : Limits) (side : Side) (s : List Frame) : Type 0 where
  pub expr : Stands lim s → (e : Expr) (r : ℕ) → here s ≤ r → Closes lim side e r s
  pub stmt : wants_stmt s ≡ true → (st : Stmt) (r : ℕ) → Ends lim side st r s

pub reaching : {lim : Limits} {side : Side} {s : List Frame} → Enough lim side s → (e : Expr) {r : ℕ} → Reaches lim r s → Closes lim side e r s
reaching n e {r} h = n.expr h.stands e r h.reach

-- a frame on which an operand stands
pub operand_frame : {lim : Limits} {side : Side} (f : Frame) {s : List Frame} → wants_stmt (f ∷ s) ≡ false → (Stands lim (f ∷ s) → (e : Expr) (r : ℕ) → here s ≤ r → Closes lim side e r (f ∷ s)) → Enough lim side (f ∷ s)
operand_frame f {s} q on = record { expr = λ h e r i. on h e r (omega (arith, i)); stmt = λ h st r. never (sym q ∙ h) }

-- a frame on which a statement stands
pub statement_frame : {lim : Limits} {side : Side} (f : Frame) {s : List Frame} → wants_expr (f ∷ s) ≡ false → ((st : Stmt) (r : ℕ) → Ends lim side st r (f ∷ s)) → Enough lim side (f ∷ s)
statement_frame f q on = record { expr = λ h e r i. never (sym q ∙ h.wanted); stmt = λ h st r. on st r }

-- an operator's frame ends with its operand
pub through : {lim : Limits} {side : Side} (f : Frame) {s : List Frame} (make : Expr → Expr) (reach : ℕ → ℕ) → wants_stmt (f ∷ s) ≡ false → ((r : ℕ) → r ≤ reach r) → ((e : Expr) (r : ℕ) → settle 0 e r (f ∷ s) ≡ settle 0 (make e) (reach r) s) → OfOperand lim f s → Enough lim side s → Enough lim side (f ∷ s)
through f make reach q le same h n = operand_frame f q (λ i e r j. settled_closes (same e r) (n.expr h.stands (make e) (reach r) (omega (arith, le r, j))))

pub settle_binary : (op : BinaryOp) (a e : Expr) (q r : ℕ) (s : List Frame) → settle 0 e r (in_binary op a q ∷ s) ≡ settle 0 (Binary op a e) (max q r) s
settle_binary op a e q r s = ap (λ b. cond b (settle 0 (Binary op a e) (max q r) s) (settled e r (in_binary op a q ∷ s))) (le_true 0 (level_of op) (omega arith))

pub settle_logic : (op : LogicOp) (a e : Expr) (q r : ℕ) (s : List Frame) → settle 0 e r (in_logic op a q ∷ s) ≡ settle 0 (Logic op a e) (max q r) s
settle_logic op a e q r s = ap (λ b. cond b (settle 0 (Logic op a e) (max q r) s) (settled e r (in_logic op a q ∷ s))) (le_true 0 (logic_level op) (omega arith))

-- A CHOICE goes on with its other expression
pub other_closes : {lim : Limits} {side : Side} {s : List Frame} (a y : Expr) (q : ℕ) → Stands lim s → Enough lim side s → (e : Expr) (r : ℕ) → here s ≤ r → Closes lim side e r (in_other a y q ∷ s)
other_closes {s = s} a y q h n e r i = settled_closes refl (n.expr h (Choice a y e) (max q r) (omega arith))

pub choice_closes : {lim : Limits} {side : Side} {s : List Frame} (a : Expr) (q : ℕ) → Stands lim s → Enough lim side s → Stands lim (in_choice a q ∷ s) → (e : Expr) (r : ℕ) → Closes lim side e r (in_choice a q ∷ s)
choice_closes {s = s} a q h n w e r = closes_by g.Colon tt refl (number_goes (in_other a e (max q r) ∷ s) w.fit refl (other_closes a e (max q r) h n (Num 0) (here (in_other a e (max q r) ∷ s)) (omega arith)))

-- A FORM goes on with the arguments that it lacks
least_small : (form : Form) → least_parts form ≤ 4
least_small f.NewPromise = omega arith
least_small f.Wrap = omega arith
least_small f.QueueMicrotask = omega arith
least_small f.HostOn = omega arith
least_small f.Span = omega arith
least_small f.Freeze = omega arith
least_small f.CallWith = omega arith
least_small f.Note = omega arith
least_small f.On = omega arith
least_small _ = omega arith

least_taken : (form : Form) → at_most (most_parts form) (least_parts form) ≡ true
least_taken f.NewPromise = refl
least_taken f.Wrap = refl
least_taken f.QueueMicrotask = refl
least_taken f.HostOn = refl
least_taken f.Span = refl
least_taken f.Freeze = refl
least_taken f.CallWith = refl
least_taken f.Note = refl
least_taken f.On = refl
least_taken _ = refl

-- where it lacks some there is room
pub lacks_room : (lim : Limits) (form : Form) (m : ℕ) → takes_more lim 3 ≡ true → suc m ≤ least_parts form → (takes_more lim m && at_most (most_parts form) (suc m)) ≡ true
lacks_room lim form m h i =
    let a : takes_more lim m ≡ true = at_most_less lim.most (suc m) 4 (omega (arith, least_small form)) h in
    let b : at_most (most_parts form) (suc m) ≡ true = at_most_less (most_parts form) (suc m) (least_parts form) i (least_taken form) in
    both (takes_more lim m) (at_most (most_parts form) (suc m)) a b

pub form_closed : {lim : Limits} {side : Side} {s : List Frame} (form : Form) (es : Exprs) (q : ℕ) (e : Expr) (r : ℕ) → Stands lim s → Enough lim side s → here s ≤ q → least_parts form ≤ suc (count es) → at_most (most_parts form) (suc (count es)) ≡ true → Closes lim side e r (in_form form es q ∷ s)
form_closed {s = s} form es q e r h n i j taken =
    closes_by g.CloseParen tt (if_goes (have (Built form (with_last es e)) (max q r)) s (both (nat_le (least_parts form) (suc (count es))) (at_most (most_parts form) (suc (count es))) (le_true (least_parts form) (suc (count es)) j) taken))
    (have_goes (n.expr h (Built form (with_last es e)) (max q r) (omega arith)))

pub not_le : (m n : ℕ) → nat_le m n ≡ false → suc n ≤ m
not_le m n h = grind (arith, nat_tests)

-- so many arguments at most are lacking
pub form_closes : {lim : Limits} {side : Side} {s : List Frame} (lacking : ℕ) (form : Form) (es : Exprs) (q : ℕ) (e : Expr) (r : ℕ) → takes_more lim 3 ≡ true → Stands lim s → Enough lim side s → here s ≤ q → fits lim (here (in_form form es q ∷ s)) ≡ true → at_most (most_parts form) (suc (count es)) ≡ true → least_parts form ≤ suc (count es) + lacking
    → Closes lim side e r (in_form form es q ∷ s)
form_closes zero form es q e r lists h n i w taken j = form_closed form es q e r h n i (omega arith) taken
form_closes {lim} {side} {s} (suc lacking) form es q e r lists h n i w taken j =
    pick (nat_le (least_parts form) (suc (count es))) refl (λ m. form_closes lacking form (with_last es e) (max q r) (Num 0) (here (in_form form (with_last es e) (max q r) ∷ s)) lists h n (omega arith) w m (omega (arith, count_last es e)))
  where
    one_more : suc (suc (count es)) ≤ least_parts form → has_room lim (in_form form (with_last es e) (max q r) ∷ s) ≡ true
    one_more m = ap (λ x. takes_more lim x && at_most (most_parts form) (suc x)) (count_last es e) ∙ lacks_room lim form (suc (count es)) lists m

    short : nat_le (least_parts form) (suc (count es)) ≡ false → suc (suc (count es)) ≤ least_parts form
    short m = not_le (least_parts form) (suc (count es)) m

    pick : (b : Bool) → nat_le (least_parts form) (suc (count es)) ≡ b → (at_most (most_parts form) (suc (count (with_last es e))) ≡ true → Closes lim side (Num 0) (here (in_form form (with_last es e) (max q r) ∷ s)) (in_form form (with_last es e) (max q r) ∷ s)) → Closes lim side e r (in_form form es q ∷ s)
    pick true m on = form_closed form es q e r h n i (le_from (least_parts form) (suc (count es)) m) taken
    pick false m on =
        let room : has_room lim (in_form form (with_last es e) (max q r) ∷ s) ≡ true = one_more (short m) in
        closes_by g.Comma tt refl (number_goes (in_form form (with_last es e) (max q r) ∷ s) w room (on (and_right (takes_more lim (count (with_last es e))) (at_most (most_parts form) (suc (count (with_last es e)))) room)))
