-- What is read within limits is read alike within looser ones: operands.
use Rattle.std.proofs.Common.{◌≡◌, ℕ, suc, List, [], ◌∷◌, Bool, true, false, ◌&&◌, ◌||◌, cond, refl, ◌∙◌, ap}
use Rattle.std.specs.Prelude.{nat_eq}
use Rattle.actx_grammar.specs.declared.operators.BinaryOp.{BinaryOp}
use Rattle.actx_grammar.specs.declared.operators.BinaryOp.TheVariants as o
use Rattle.actx_grammar.specs.declared.operators.Form.{Form}
use Rattle.actx_grammar.specs.declared.operators.LogicOp.{LogicOp}
use Rattle.actx_grammar.specs.declared.operators.LogicOp.TheVariants.{And, Or, Coalesce}
use Rattle.actx_grammar.specs.declared.operators.UnaryOp.{UnaryOp}
use Rattle.actx_grammar.specs.declared.operators.UnaryOp.TheVariants as u
use Rattle.actx_grammar.specs.declared.side.Side.{Side}
use Rattle.actx_grammar.specs.declared.token.Keyword.{Keyword}
use Rattle.actx_grammar.specs.declared.token.Keyword.TheVariants as k
use Rattle.actx_grammar.specs.declared.token.Sign.TheVariants as g
use Rattle.actx_grammar.specs.declared.token.TokenKind.{TokenKind}
use Rattle.actx_grammar.specs.declared.token.TokenKind.TheVariants as t
use Rattle.actx_grammar.specs.Forms.{form_words}
use Rattle.actx_grammar.specs.Grammar.{count}
use Rattle.actx_grammar.specs.ParserOperands.{is_built_in, is_source, least_parts, most_parts, forms_of, begins_with, goes_on, takes_whole, has_room, fits_below, prefix, words_go, key_operand, operand, begin_operand, at_need, binary, logic, unmixed, tighter, at_logic, choice, at_operator, at_have, at_member}
use Rattle.actx_grammar.specs.ParserState.{Limits, at_most, fits, takes_more, Frame, in_unary, in_await, in_binary, in_logic, in_choice, in_call, in_form, in_index, Mode, need, have_name, opened, member_name, words_next, Move, refuse, go, go_if, here, Settled, settled, settle}
use Rattle.actx_grammar.specs.Tree.{Expr, Member, none, Key}

pub record Looser (lim lam : Limits) : Type 0 where
  pub deeper : (n : ℕ) → fits lim n ≡ true → fits lam n ≡ true
  pub longer : (n : ℕ) → takes_more lim n ≡ true → takes_more lam n ≡ true

-- where the one move goes, the other goes too
abbrev pub Kept : Move → Move → Type 0
Kept a b = (n : Mode) (u : List Frame) → a ≡ go n u → b ≡ go n u

abbrev pub Holds : Bool → Bool → Type 0
Holds b c = b ≡ true → c ≡ true

pub same : (a : Move) → Kept a a
same a n u h = h

pub kept_if : (b c : Bool) → Holds b c → (m : Mode) (s : List Frame) → Kept (go_if b m s) (go_if c m s)
kept_if true c i m s n u h = ap (λ d. go_if d m s) (i refl) ∙ h
kept_if false c i m s n u h = absurd (cc)

pub kept_when : (b c : Bool) (x y : Move) → Holds b c → Kept x y → Kept (cond b x refuse) (cond c y refuse)
kept_when true c x y i j n u h = ap (λ d. cond d y refuse) (i refl) ∙ j n u h
kept_when false c x y i j n u h = absurd (cc)

pub kept_either : (b : Bool) (v w x y : Move) → Kept v x → Kept w y → Kept (cond b v w) (cond b x y)
kept_either true v w x y i j = i
kept_either false v w x y i j = j

pub and_holds : (a b c d : Bool) → Holds a c → Holds b d → Holds (a && b) (c && d)
and_holds true b c d i j h = ap (λ e. e && d) (i refl) ∙ j h
and_holds false b c d i j h = absurd (cc)

or_true : (c d : Bool) → d ≡ true → c || d ≡ true
or_true true d h = refl
or_true false d h = h

pub or_holds : (a b c d : Bool) → Holds a c → Holds b d → Holds (a || b) (c || d)
or_holds true b c d i j h = ap (λ e. e || d) (i refl)
or_holds false b c d i j h = or_true c d (j h)

pub holds_same : (b : Bool) → Holds b b
holds_same b h = h

-- OPERANDS
goes_kept : {lim lam : Limits} (l : Looser lim lam) (depth : ℕ) (ws : List TokenKind) (forms : List Form) → Holds (goes_on lim depth ws forms) (goes_on lam depth ws forms)
goes_kept l depth ws [] h = h
goes_kept {lim = lim} {lam = lam} l depth ws (form ∷ forms) h =
    let b : Bool = begins_with (form_words form) ws in
    let z : Bool = nat_eq (least_parts form) 0 in
    or_holds (b && (z || fits lim (suc depth))) (goes_on lim depth ws forms) (b && (z || fits lam (suc depth))) (goes_on lam depth ws forms)
    (and_holds b (z || fits lim (suc depth)) b (z || fits lam (suc depth)) (holds_same b) (or_holds z (fits lim (suc depth)) z (fits lam (suc depth)) (holds_same z) (l.deeper (suc depth))))
    (goes_kept l depth ws forms) h

pub words_kept : {lim lam : Limits} (l : Looser lim lam) (side : Side) (ws : List TokenKind) (s : List Frame) → Kept (words_go lim side ws s) (words_go lam side ws s)
words_kept {lim = lim} {lam = lam} l side ws s = kept_if (goes_on lim (here s) ws (forms_of side)) (goes_on lam (here s) ws (forms_of side)) (goes_kept l (here s) ws (forms_of side)) (words_next ws) s

prefix_kept : {lim lam : Limits} (l : Looser lim lam) (op : UnaryOp) (s : List Frame) → Kept (prefix lim op s) (prefix lam op s)
prefix_kept {lim = lim} {lam = lam} l op s = kept_if (fits_below lim s) (fits_below lam s) (l.deeper (suc (here s))) need (in_unary op ∷ s)

keyword_kept : {lim lam : Limits} (l : Looser lim lam) (side : Side) (s : List Frame) (w : Keyword) → Kept (key_operand lim side s w) (key_operand lam side s w)
keyword_kept l side s k.New = words_kept l side (t.Keyword k.New ∷ []) s
keyword_kept {lim = lim} {lam = lam} l side s k.Await = kept_if (is_source side && fits_below lim s) (is_source side && fits_below lam s) (and_holds (is_source side) (fits_below lim s) (is_source side) (fits_below lam s) (holds_same (is_source side)) (l.deeper (suc (here s)))) need (in_await ∷ s)
keyword_kept l side s k.Typeof = prefix_kept l u.Typeof s
keyword_kept l side s k.Void = prefix_kept l u.Void s
keyword_kept {lim = lim} l side s k.This = same (key_operand lim side s k.This)
keyword_kept {lim = lim} l side s w = same (key_operand lim side s w)

operand_kept : {lim lam : Limits} (l : Looser lim lam) (side : Side) (s : List Frame) (w : TokenKind) → Kept (operand lim side s w) (operand lam side s w)
operand_kept {lim = lim} {lam = lam} l side s (t.Name x) = kept_either (is_built_in side x) (words_go lim side (t.Name x ∷ []) s) (go (have_name x) s) (words_go lam side (t.Name x ∷ []) s) (go (have_name x) s) (words_kept l side (t.Name x ∷ []) s) (same (go (have_name x) s))
operand_kept l side s (t.Keyword w) = keyword_kept l side s w
operand_kept l side s (t.Sign g.Not) = prefix_kept l u.Not s
operand_kept l side s (t.Sign g.Minus) = prefix_kept l u.Minus s
operand_kept {lim = lim} {lam = lam} l side s (t.Sign g.OpenParen) = kept_if (takes_whole s || fits_below lim s) (takes_whole s || fits_below lam s) (or_holds (takes_whole s) (fits_below lim s) (takes_whole s) (fits_below lam s) (holds_same (takes_whole s)) (l.deeper (suc (here s)))) opened s
operand_kept {lim = lim} l side s (t.Sign w) = same (operand lim side s (t.Sign w))
operand_kept {lim = lim} l side s w = same (operand lim side s w)

room_kept : {lim lam : Limits} (l : Looser lim lam) (s : List Frame) → Holds (has_room lim s) (has_room lam s)
room_kept l (in_call f es r ∷ s) = l.longer (count es)
room_kept {lim = lim} {lam = lam} l (in_form form es r ∷ s) = and_holds (takes_more lim (count es)) (at_most (most_parts form) (suc (count es))) (takes_more lam (count es)) (at_most (most_parts form) (suc (count es))) (l.longer (count es)) (holds_same (at_most (most_parts form) (suc (count es))))
room_kept l [] = holds_same true
room_kept l (_ ∷ s) = holds_same true

pub begin_kept : {lim lam : Limits} (l : Looser lim lam) (side : Side) (s : List Frame) (w : TokenKind) → Kept (begin_operand lim side s w) (begin_operand lam side s w)
begin_kept {lim = lim} {lam = lam} l side s w = kept_when (fits lim (here s) && has_room lim s) (fits lam (here s) && has_room lam s) (operand lim side s w) (operand lam side s w) (and_holds (fits lim (here s)) (has_room lim s) (fits lam (here s)) (has_room lam s) (l.deeper (here s)) (room_kept l s)) (operand_kept l side s w)

pub need_kept : {lim lam : Limits} (l : Looser lim lam) (side : Side) (s : List Frame) (w : TokenKind) → Kept (at_need lim side s w) (at_need lam side s w)
need_kept {lim = lim} l side s (t.Sign g.CloseParen) = same (at_need lim side s (t.Sign g.CloseParen))
need_kept l side s (t.Sign w) = begin_kept l side s (t.Sign w)
need_kept l side s w = begin_kept l side s w

-- BEHIND AN OPERAND
binary_kept : {lim lam : Limits} (l : Looser lim lam) (op : BinaryOp) (q : Settled) → Kept (binary lim op q) (binary lam op q)
binary_kept {lim = lim} {lam = lam} l op (settled e r s) = kept_if (fits lim (suc r)) (fits lam (suc r)) (l.deeper (suc r)) need (in_binary op e (suc r) ∷ s)

logic_kept : {lim lam : Limits} (l : Looser lim lam) (op : LogicOp) (q : Settled) → Kept (logic lim op q) (logic lam op q)
logic_kept {lim = lim} {lam = lam} l op (settled e r s) = kept_if (fits lim (suc r)) (fits lam (suc r)) (l.deeper (suc r)) need (in_logic op e (suc r) ∷ s)

choice_kept : {lim lam : Limits} (l : Looser lim lam) (q : Settled) → Kept (choice lim q) (choice lam q)
choice_kept {lim = lim} {lam = lam} l (settled e r s) = kept_if (fits lim (suc r)) (fits lam (suc r)) (l.deeper (suc r)) need (in_choice e (suc r) ∷ s)

at_logic_kept : {lim lam : Limits} (l : Looser lim lam) (op : LogicOp) (level : ℕ) (e : Expr) (r : ℕ) (s : List Frame) → Kept (at_logic lim op level e r s) (at_logic lam op level e r s)
at_logic_kept {lim = lim} {lam = lam} l op level e r s = kept_either (unmixed op (settle (tighter op) e r s)) (logic lim op (settle level e r s)) refuse (logic lam op (settle level e r s)) refuse (logic_kept l op (settle level e r s)) (same refuse)

pub operator_kept : {lim lam : Limits} (l : Looser lim lam) (e : Expr) (r : ℕ) (s : List Frame) (w : TokenKind) → Kept (at_operator lim e r s w) (at_operator lam e r s w)
operator_kept l e r s (t.Sign g.Plus) = binary_kept l o.Add (settle 7 e r s)
operator_kept l e r s (t.Sign g.Minus) = binary_kept l o.Sub (settle 7 e r s)
operator_kept l e r s (t.Sign g.Star) = binary_kept l o.Mul (settle 8 e r s)
operator_kept l e r s (t.Sign g.Same) = binary_kept l o.Same (settle 5 e r s)
operator_kept l e r s (t.Sign g.NotSame) = binary_kept l o.NotSame (settle 5 e r s)
operator_kept l e r s (t.Sign g.Less) = binary_kept l o.Less (settle 6 e r s)
operator_kept l e r s (t.Sign g.LessSame) = binary_kept l o.LessSame (settle 6 e r s)
operator_kept l e r s (t.Sign g.More) = binary_kept l o.More (settle 6 e r s)
operator_kept l e r s (t.Sign g.MoreSame) = binary_kept l o.MoreSame (settle 6 e r s)
operator_kept l e r s (t.Sign g.And) = at_logic_kept l And 4 e r s
operator_kept l e r s (t.Sign g.Or) = at_logic_kept l Or 3 e r s
operator_kept l e r s (t.Sign g.Coalesce) = at_logic_kept l Coalesce 3 e r s
operator_kept l e r s (t.Sign g.Question) = choice_kept l (settle 3 e r s)
operator_kept {lim = lim} l e r s (t.Sign w) = same (at_operator lim e r s (t.Sign w))
operator_kept {lim = lim} l e r s w = same (at_operator lim e r s w)

pub have_kept : {lim lam : Limits} (l : Looser lim lam) (e : Expr) (r : ℕ) (s : List Frame) (w : TokenKind) → Kept (at_have lim e r s w) (at_have lam e r s w)
have_kept {lim = lim} {lam = lam} l e r s (t.Sign g.Dot) = kept_if (fits lim (suc r)) (fits lam (suc r)) (l.deeper (suc r)) (member_name e (suc r)) s
have_kept {lim = lim} {lam = lam} l e r s (t.Sign g.OpenBracket) = kept_if (fits lim (suc r)) (fits lam (suc r)) (l.deeper (suc r)) need (in_index e (suc r) ∷ s)
have_kept {lim = lim} {lam = lam} l e r s (t.Sign g.OpenParen) = kept_if (fits lim (suc r)) (fits lam (suc r)) (l.deeper (suc r)) need (in_call e none (suc r) ∷ s)
have_kept l e r s (t.Sign w) = operator_kept l e r s (t.Sign w)
have_kept l e r s w = operator_kept l e r s w

pub member_kept : {lim lam : Limits} (l : Looser lim lam) (e : Expr) (key : Key) (r : ℕ) (s : List Frame) (w : TokenKind) → Kept (at_member lim e key r s w) (at_member lam e key r s w)
member_kept {lim = lim} l e key r s (t.Sign g.Assign) = same (at_member lim e key r s (t.Sign g.Assign))
member_kept l e key r s (t.Sign w) = have_kept l (Member e key) r s (t.Sign w)
member_kept l e key r s w = have_kept l (Member e key) r s w
