-- What begins a statement or an arrow's body, and what its first part begins.
use Rattle.std.proofs.Common.{◌≡◌, ℕ, suc, Bool, true, false, List, [], ◌∷◌, ◌++◌, Option, refl, ap, subst, append_assoc, codes, nat_lt}
use Rattle.actx_grammar.specs.declared.operators.BinaryOp.{BinaryOp}
use Rattle.actx_grammar.specs.declared.operators.BinaryOp.TheVariants as o
use Rattle.actx_grammar.specs.declared.operators.Form.{Form}
use Rattle.actx_grammar.specs.declared.operators.Form.TheVariants as f
use Rattle.actx_grammar.specs.declared.operators.FunctionKind.{FunctionKind}
use Rattle.actx_grammar.specs.declared.operators.FunctionKind.TheVariants.{Arrow, AsyncArrow}
use Rattle.actx_grammar.specs.declared.operators.LogicOp.{LogicOp}
use Rattle.actx_grammar.specs.declared.operators.LogicOp.TheVariants.{And, Or, Coalesce}
use Rattle.actx_grammar.specs.declared.operators.UnaryOp.{UnaryOp}
use Rattle.actx_grammar.specs.declared.operators.UnaryOp.TheVariants as u
use Rattle.actx_grammar.specs.declared.side.Side.{Side}
use Rattle.actx_grammar.specs.declared.token.Keyword.TheVariants as k
use Rattle.actx_grammar.specs.declared.token.Sign.TheVariants as g
use Rattle.actx_grammar.specs.declared.token.TokenKind.{TokenKind}
use Rattle.actx_grammar.specs.declared.token.TokenKind.TheVariants as t
use Rattle.actx_grammar.specs.Forms.{unary_word, level_of, sign_of, bump_sign, form_words}
use Rattle.actx_grammar.specs.Lexemes.{Lexeme, kinds}
use Rattle.actx_grammar.specs.Tree.{Expr, Key, Num, Text, Truth, Null, Undefined, This, Named, Unary, Binary, Logic, Choice, SetName, SetMember, Change, Bump, Member, Call, Object, Function, Yield, YieldAll, Await, Built, also, no_expr, some_expr, Dot, Index, code}
use Rattle.actx_grammar.specs.Grammar.{IsStatementStart, IsBodyStart, SpellsHead, sp_normal, sp_normal_named, sp_generator, sp_generator_named, sp_async, sp_async_named}
use Rattle.actx_grammar.specs.Spell.{Start, within, round, braced, in_parens, spell_head, wrapped, logic_sign, logic_level, left_level, right_level, change_sign, spell, spell_key, spell_list, spell_program, inner, statement, body}

-- the tokens may stand at the place as they are
abbrev pub May : Start → List TokenKind → Type 0
May inner x = Unit {0}
May body x = IsBodyStart x
May statement x = IsStatementStart x

front_body : (x y : List TokenKind) → IsBodyStart (x ++ y) → IsBodyStart x
front_body [] y h = tt
front_body (t.Sign g.OpenBrace ∷ x) y h = h
front_body (t.Sign _ ∷ x) y h = tt
front_body (t.Keyword _ ∷ x) y h = tt
front_body (t.Name _ ∷ x) y h = tt
front_body (t.Number _ ∷ x) y h = tt
front_body (t.Text _ ∷ x) y h = tt

front_async : (x y : List TokenKind) → IsStatementStart (t.Keyword k.Async ∷ (x ++ y)) → IsStatementStart (t.Keyword k.Async ∷ x)
front_async [] y h = tt
front_async (t.Keyword k.Function ∷ x) y h = h
front_async (t.Keyword _ ∷ x) y h = tt
front_async (t.Sign _ ∷ x) y h = tt
front_async (t.Name _ ∷ x) y h = tt
front_async (t.Number _ ∷ x) y h = tt
front_async (t.Text _ ∷ x) y h = tt

front_statement : (x y : List TokenKind) → IsStatementStart (x ++ y) → IsStatementStart x
front_statement [] y h = tt
front_statement (t.Sign g.OpenBrace ∷ x) y h = h
front_statement (t.Sign _ ∷ x) y h = tt
front_statement (t.Keyword k.Function ∷ x) y h = h
front_statement (t.Keyword k.Async ∷ x) y h = front_async x y h
front_statement (t.Keyword _ ∷ x) y h = tt
front_statement (t.Name _ ∷ x) y h = tt
front_statement (t.Number _ ∷ x) y h = tt
front_statement (t.Text _ ∷ x) y h = tt

front_kinds : (st : Start) (x y : List TokenKind) → May st (x ++ y) → May st x
front_kinds inner x y h = tt
front_kinds body x y h = front_body x y h
front_kinds statement x y h = front_statement x y h

kinds_append : (x y : List Lexeme) → kinds (x ++ y) ≡ kinds x ++ kinds y
kinds_append [] y = refl
kinds_append (w ∷ x) y = ap (λ z. w.kind ∷ z) (kinds_append x y)

pub may_front : (st : Start) (x y : List Lexeme) → May st (kinds (x ++ y)) → May st (kinds x)
may_front st x y h = front_kinds st (kinds x) (kinds y) (subst (May st) (kinds_append x y) h)

-- A FUNCTION OR AN OBJECT begins no statement
pub head_starts : {side : Side} {kind : FunctionKind} {name : Option (List ℕ)} {x : List Lexeme} → SpellsHead side kind name x → IsStatementStart (kinds x) → ⊥
head_starts sp_normal h = h
head_starts (sp_normal_named n) h = h
head_starts (sp_generator s) h = h
head_starts (sp_generator_named s n) h = h
head_starts (sp_async s) h = h
head_starts (sp_async_named s n) h = h

-- WHAT A STATEMENT IS PRINTED AS begins one
async_on : (x y : List TokenKind) → IsStatementStart (t.Keyword k.Async ∷ x) → IsStatementStart y → IsStatementStart (t.Keyword k.Async ∷ (x ++ y))
async_on [] [] h i = tt
async_on [] (t.Keyword k.Function ∷ y) h i = i
async_on [] (t.Keyword _ ∷ y) h i = tt
async_on [] (t.Sign _ ∷ y) h i = tt
async_on [] (t.Name _ ∷ y) h i = tt
async_on [] (t.Number _ ∷ y) h i = tt
async_on [] (t.Text _ ∷ y) h i = tt
async_on (t.Keyword k.Function ∷ x) y h i = h
async_on (t.Keyword _ ∷ x) y h i = tt
async_on (t.Sign _ ∷ x) y h i = tt
async_on (t.Name _ ∷ x) y h i = tt
async_on (t.Number _ ∷ x) y h i = tt
async_on (t.Text _ ∷ x) y h i = tt

starts_on : (x y : List TokenKind) → IsStatementStart x → IsStatementStart y → IsStatementStart (x ++ y)
starts_on [] y h i = i
starts_on (t.Sign g.OpenBrace ∷ x) y h i = h
starts_on (t.Sign _ ∷ x) y h i = tt
starts_on (t.Keyword k.Function ∷ x) y h i = h
starts_on (t.Keyword k.Async ∷ x) y h i = async_on x y h i
starts_on (t.Keyword _ ∷ x) y h i = tt
starts_on (t.Name _ ∷ x) y h i = tt
starts_on (t.Number _ ∷ x) y h i = tt
starts_on (t.Text _ ∷ x) y h i = tt

-- in parentheses, or as the first part of a row
row_starts : (w : Bool) (X : Start → List TokenKind) (y : List TokenKind) → IsStatementStart (X statement) → IsStatementStart y → IsStatementStart (in_parens w (X (within w statement) ++ y))
row_starts true X y h i = tt
row_starts false X y h i = starts_on (X statement) y h i

fixed_starts : (w : Bool) (x : List TokenKind) → IsStatementStart x → IsStatementStart (in_parens w x)
fixed_starts true x h = tt
fixed_starts false x h = h

key_starts : (key : Key) (y : List TokenKind) → IsStatementStart (spell_key key ++ y)
key_starts (Dot x) y = tt
key_starts (Index e) y = tt

unary_starts : (op : UnaryOp) (y : List TokenKind) → IsStatementStart (unary_word op ∷ y)
unary_starts u.Not y = tt
unary_starts u.Minus y = tt
unary_starts u.Typeof y = tt
unary_starts u.Void y = tt

binary_starts : (op : BinaryOp) (y : List TokenKind) → IsStatementStart (t.Sign (sign_of op) ∷ y)
binary_starts o.Same y = tt
binary_starts _ y = tt

logic_starts : (op : LogicOp) (y : List TokenKind) → IsStatementStart (t.Sign (logic_sign op) ∷ y)
logic_starts And y = tt
logic_starts Or y = tt
logic_starts Coalesce y = tt

bump_starts : (up : Bool) (y : List TokenKind) → IsStatementStart (t.Sign (bump_sign up) ∷ y)
bump_starts true y = tt
bump_starts false y = tt

words_start : (form : Form) (y : List TokenKind) → IsStatementStart (form_words form ++ round y)
words_start f.Log y = tt
words_start _ y = tt

function_starts : (kind : FunctionKind) (x : Option (List ℕ)) (xs : List (List ℕ)) (l : ℕ) (y : List TokenKind) → IsStatementStart (in_parens (wrapped kind statement l) (spell_head kind x xs ++ y))
function_starts Arrow x xs l y = fixed_starts (nat_lt 1 l) (spell_head Arrow x xs ++ y) tt
function_starts AsyncArrow x xs l y = fixed_starts (nat_lt 1 l) (spell_head AsyncArrow x xs ++ y) tt
function_starts _ x xs l y = tt

pub starts : (e : Expr) (l : ℕ) → IsStatementStart (spell statement e l)
starts (Num n) l = tt
starts (Text u) l = tt
starts (Truth true) l = tt
starts (Truth false) l = tt
starts Null l = tt
starts Undefined l = tt
starts This l = tt
starts (Named x) l = tt
starts (Unary op e) l = fixed_starts (nat_lt 9 l) (unary_word op ∷ spell inner e 9) (unary_starts op (spell inner e 9))
starts (Binary op a b) l = row_starts (nat_lt (level_of op) l) (λ st. spell st a (level_of op)) (t.Sign (sign_of op) ∷ spell inner b (suc (level_of op))) (starts a (level_of op)) (binary_starts op (spell inner b (suc (level_of op))))
starts (Logic op a b) l = row_starts (nat_lt (logic_level op) l) (λ st. spell st a (left_level op a)) (t.Sign (logic_sign op) ∷ spell inner b (right_level op)) (starts a (left_level op a)) (logic_starts op (spell inner b (right_level op)))
starts (Choice e a b) l = row_starts (nat_lt 2 l) (λ st. spell st e 3) (t.Sign g.Question ∷ (spell inner a 1 ++ t.Sign g.Colon ∷ spell inner b 1)) (starts e 3) tt
starts (SetName x e) l = fixed_starts (nat_lt 1 l) (t.Name x ∷ t.Sign g.Assign ∷ spell inner e 1) tt
starts (SetMember e key v) l = rw (append_assoc (spell (within (nat_lt 1 l) statement) e 11) (spell_key key) (t.Sign g.Assign ∷ spell inner v 1)) (row_starts (nat_lt 1 l) (λ st. spell st e 11) (spell_key key ++ t.Sign g.Assign ∷ spell inner v 1) (starts e 11) (key_starts key (t.Sign g.Assign ∷ spell inner v 1)))
starts (Change x op e) l = fixed_starts (nat_lt 1 l) (t.Name x ∷ t.Sign (change_sign op) ∷ spell inner e 1) tt
starts (Bump x up true) l = fixed_starts (nat_lt 10 l) (t.Sign (bump_sign up) ∷ t.Name x ∷ []) (bump_starts up (t.Name x ∷ []))
starts (Bump x up false) l = fixed_starts (nat_lt 10 l) (t.Name x ∷ t.Sign (bump_sign up) ∷ []) tt
starts (Member e key) l = row_starts (nat_lt 11 l) (λ st. spell st e 11) (spell_key key) (starts e 11) (key_starts_alone key)
  where
    key_starts_alone : (j : Key) → IsStatementStart (spell_key j)
    key_starts_alone (Dot x) = tt
    key_starts_alone (Index e) = tt
starts (Call f es) l = row_starts (nat_lt 11 l) (λ st. spell st f 11) (round (spell_list es)) (starts f 11) tt
starts (Object ps) l = tt
starts (Function (code x kind xs ss)) l = function_starts kind x xs l (braced (spell_program ss))
starts (Yield no_expr) l = fixed_starts (nat_lt 1 l) (t.Keyword k.Yield ∷ []) tt
starts (Yield (some_expr e)) l = fixed_starts (nat_lt 1 l) (t.Keyword k.Yield ∷ spell inner e 1) tt
starts (YieldAll e) l = fixed_starts (nat_lt 1 l) (t.Keyword k.Yield ∷ t.Sign g.Star ∷ spell inner e 1) tt
starts (Await e) l = fixed_starts (nat_lt 9 l) (t.Keyword k.Await ∷ spell inner e 9) tt
starts (Built f.CallWith (also f es)) l = row_starts (nat_lt 11 l) (λ st. spell st f 11) (t.Sign g.Dot ∷ t.Name (codes "call") ∷ round (spell_list es)) (starts f 11) tt
starts (Built form es) l = fixed_starts (nat_lt 11 l) (form_words form ++ round (spell_list es)) (words_start form (spell_list es))
