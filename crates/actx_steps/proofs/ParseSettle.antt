-- What settles at a level settles further at a lower one.
use Rattle.std.proofs.Common.{◌≡◌, ℕ, zero, suc, ◌≤◌, List, [], ◌∷◌, Bool, true, false, cond, None, refl, sym, ◌∙◌, ap, arith}
use Rattle.std.specs.Prelude.{nat_le, max}
use Rattle.actx_grammar.specs.declared.operators.LogicOp.{LogicOp}
use Rattle.actx_grammar.specs.declared.operators.LogicOp.TheVariants.{And, Or, Coalesce}
use Rattle.actx_grammar.specs.Forms.{level_of}
use Rattle.actx_grammar.specs.ParserOperands.{at_logic, logic, mixes, tighter, unmixed}
use Rattle.actx_grammar.specs.ParserState.{Limits, Move, refuse, Frame, in_unary, in_await, in_binary, in_logic, in_other, in_set_name, in_set, in_change, in_arrow, in_yield, in_yield_all, logic_level, Settled, settled, settle}
use Rattle.actx_laws.proofs.ParseNames.{le_true, le_from}
use Rattle.actx_grammar.specs.Tree.{Expr, Unary, Binary, Logic, Choice, SetName, SetMember, Change, Function, Yield, YieldAll, Await, Return, some_expr, code, end, next}

level_less : (op : LogicOp) → logic_level op ≤ tighter op
level_less And = omega arith
level_less Or = omega arith
level_less Coalesce = omega arith

-- settled once more
abbrev pub again : ℕ → Settled → Settled
again l (settled e r s) = settle l e r s

le_less : (l k n : ℕ) → l ≤ k → nat_le k n ≡ true → nat_le l n ≡ true
le_less l k n h t = le_true l n (omega (arith, le_from k n t))

-- a frame that binds at the higher level binds at the lower one
ended : (l : ℕ) (b c : Bool) (x y z : Settled) → (b ≡ true → c ≡ true) → again l x ≡ y → again l z ≡ cond c y z → again l (cond b x z) ≡ cond c y z
ended l true c x y z f h stays = let e : c ≡ true = f refl in h ∙ ap (λ d. cond d y z) (sym e)
ended l false c x y z f h stays = stays

pub further : (l k : ℕ) (e : Expr) (r : ℕ) (s : List Frame) → l ≤ k → again l (settle k e r s) ≡ settle l e r s
further l k e r (in_unary op ∷ s) h = ended l (nat_le k 9) (nat_le l 9) (settle k (Unary op e) r s) (settle l (Unary op e) r s) (settled e r (in_unary op ∷ s)) (le_less l k 9 h) (further l k (Unary op e) r s h) refl
further l k e r (in_await ∷ s) h = ended l (nat_le k 9) (nat_le l 9) (settle k (Await e) r s) (settle l (Await e) r s) (settled e r (in_await ∷ s)) (le_less l k 9 h) (further l k (Await e) r s h) refl
further l k e r (in_binary op a q ∷ s) h =
    ended l (nat_le k (level_of op)) (nat_le l (level_of op)) (settle k (Binary op a e) (max q r) s) (settle l (Binary op a e) (max q r) s) (settled e r (in_binary op a q ∷ s)) (le_less l k (level_of op) h) (further l k (Binary op a e) (max q r) s h) refl
further l k e r (in_logic op a q ∷ s) h =
    ended l (nat_le k (logic_level op)) (nat_le l (logic_level op)) (settle k (Logic op a e) (max q r) s) (settle l (Logic op a e) (max q r) s) (settled e r (in_logic op a q ∷ s)) (le_less l k (logic_level op) h) (further l k (Logic op a e) (max q r) s h) refl
further l k e r (in_other t y q ∷ s) h =
    ended l (nat_le k 2) (nat_le l 2) (settle k (Choice t y e) (max q r) s) (settle l (Choice t y e) (max q r) s) (settled e r (in_other t y q ∷ s)) (le_less l k 2 h) (further l k (Choice t y e) (max q r) s h) refl
further l k e r (in_set_name x ∷ s) h = ended l (nat_le k 1) (nat_le l 1) (settle k (SetName x e) r s) (settle l (SetName x e) r s) (settled e r (in_set_name x ∷ s)) (le_less l k 1 h) (further l k (SetName x e) r s h) refl
further l k e r (in_set b key q ∷ s) h =
    ended l (nat_le k 1) (nat_le l 1) (settle k (SetMember b key e) (max q r) s) (settle l (SetMember b key e) (max q r) s) (settled e r (in_set b key q ∷ s)) (le_less l k 1 h) (further l k (SetMember b key e) (max q r) s h) refl
further l k e r (in_change x op ∷ s) h = ended l (nat_le k 1) (nat_le l 1) (settle k (Change x op e) r s) (settle l (Change x op e) r s) (settled e r (in_change x op ∷ s)) (le_less l k 1 h) (further l k (Change x op e) r s h) refl
further l k e r (in_arrow kind xs ∷ s) h =
    let f = Function (code None kind xs (next (Return (some_expr e)) end)) in
    ended l (nat_le k 1) (nat_le l 1) (settle k f r s) (settle l f r s) (settled e r (in_arrow kind xs ∷ s)) (le_less l k 1 h) (further l k f r s h) refl
further l k e r (in_yield ∷ s) h = ended l (nat_le k 1) (nat_le l 1) (settle k (Yield (some_expr e)) r s) (settle l (Yield (some_expr e)) r s) (settled e r (in_yield ∷ s)) (le_less l k 1 h) (further l k (Yield (some_expr e)) r s h) refl
further l k e r (in_yield_all ∷ s) h = ended l (nat_le k 1) (nat_le l 1) (settle k (YieldAll e) r s) (settle l (YieldAll e) r s) (settled e r (in_yield_all ∷ s)) (le_less l k 1 h) (further l k (YieldAll e) r s h) refl
further l k e r [] h = refl
further l k e r (_ ∷ s) h = refl

taken : (lim : Limits) (op : LogicOp) (b : Bool) (x y : Settled) → b ≡ false → x ≡ y → cond (cond b false true) (logic lim op x) refuse ≡ logic lim op y
taken lim op true x y h e = absurd (cc)
taken lim op false x y h e = ap (logic lim op) e

-- an operand that settled as far as forms beside `??` bind settles on
pub logic_further : (lim : Limits) (op : LogicOp) (e : Expr) (r : ℕ) (s : List Frame) (t l : ℕ) (f : Expr) (q : ℕ) (u : List Frame) (x : Settled)
    → t ≡ tighter op → l ≡ logic_level op → settle t e r s ≡ settled f q u → mixes op u ≡ false → settle l f q u ≡ x → at_logic lim op (logic_level op) e r s ≡ logic lim op x
logic_further lim op e r s t l f q u x i j a m b =
    let a' : settle (tighter op) e r s ≡ settled f q u = ap (λ n. settle n e r s) (sym i) ∙ a in
    let b' : settle (logic_level op) f q u ≡ x = ap (λ n. settle n f q u) (sym j) ∙ b in
    let n : settle (logic_level op) e r s ≡ x = sym (further (logic_level op) (tighter op) e r s (level_less op)) ∙ ap (again (logic_level op)) a' ∙ b' in
    ap (λ z. cond (unmixed op z) (logic lim op (settle (logic_level op) e r s)) refuse) a' ∙ taken lim op (mixes op u) (settle (logic_level op) e r s) x m n
