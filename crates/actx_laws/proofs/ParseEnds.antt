-- Operators behind an operand, and operands that end what is open.
use Rattle.std.proofs.Common.{◌≡◌, ℕ, suc, max, ◌≤◌, List, [], ◌∷◌, Bool, true, false, cond, refl, ◌∙◌, ap, arith}
use Rattle.actx_grammar.specs.declared.operators.BinaryOp.{BinaryOp}
use Rattle.actx_grammar.specs.declared.operators.BinaryOp.TheVariants as o
use Rattle.actx_grammar.specs.declared.operators.LogicOp.{LogicOp}
use Rattle.actx_grammar.specs.declared.operators.LogicOp.TheVariants.{And, Or, Coalesce}
use Rattle.actx_grammar.specs.declared.side.Side.{Side}
use Rattle.actx_grammar.specs.declared.token.Sign.{Sign}
use Rattle.actx_grammar.specs.declared.token.Sign.TheVariants as g
use Rattle.actx_grammar.specs.declared.token.TokenKind.{TokenKind}
use Rattle.actx_grammar.specs.declared.token.TokenKind.TheVariants as t
use Rattle.actx_grammar.specs.Forms.{level_of, sign_of}
use Rattle.actx_grammar.specs.Lexemes.{Lexeme, sign}
use Rattle.actx_grammar.specs.Parser.{move, finish}
use Rattle.actx_grammar.specs.ParserOperands.{close_paren, close_bracket, close_brace, comma, semicolon, colon, binary, logic, mixes, unmixed, tighter, choice, at_logic}
use Rattle.actx_grammar.specs.ParserState.{Limits, fits, Frame, in_binary, in_logic, in_choice, need, have, refuse, logic_level, settle}
use Rattle.actx_grammar.specs.Tree.{Expr, Logic}
use Rattle.actx_laws.proofs.ParseLevels.{level_in, grip, binds, level_small, level_great}
use Rattle.actx_laws.proofs.ParseRuns.{runs, after, if_holds}
use Rattle.actx_laws.proofs.ParseSteps.{swap, Ends, settle_pops, settle_stays}

-- WHAT IS ENDED
logic_ends : {k n m : ℕ} {f : Frame} {e c : Expr} (p : Ends k f e n c m) (lim : Limits) (op : LogicOp) (level : ℕ) (s : List Frame) → level ≤ tighter op → tighter op ≤ k
    → at_logic lim op level e n (f ∷ s) ≡ at_logic lim op level c m s
logic_ends {n = n} {m = m} {f = f} {e = e} {c = c} p lim op level s h i =
    ap (λ q. cond (unmixed op q) (logic lim op (settle level e n (f ∷ s))) refuse) (settle_pops p (tighter op) s i)
    ∙ ap (λ q. cond (unmixed op (settle (tighter op) c m s)) (logic lim op q) refuse) (settle_pops p level s (omega arith))

-- what binds no tighter ends what stands innermost
ends_move : {k n m : ℕ} {f : Frame} {e c : Expr} (p : Ends k f e n c m) (lim : Limits) (side : Side) (s : List Frame) → k ≤ 9 → (t : TokenKind) (b : Bool) → grip t ≤ k
    → move lim side (have e n) (f ∷ s) t b ≡ move lim side (have c m) s t b
ends_move p lim side s i (t.Sign g.CloseParen) b h = ap close_paren (settle_pops p 0 s h)
ends_move p lim side s i (t.Sign g.CloseBracket) b h = ap close_bracket (settle_pops p 0 s h)
ends_move p lim side s i (t.Sign g.CloseBrace) b h = ap close_brace (settle_pops p 0 s h)
ends_move p lim side s i (t.Sign g.Comma) b h = ap comma (settle_pops p 0 s h)
ends_move p lim side s i (t.Sign g.Semicolon) b h = ap semicolon (settle_pops p 0 s h)
ends_move p lim side s i (t.Sign g.Colon) b h = ap colon (settle_pops p 0 s h)
ends_move p lim side s i (t.Sign g.Question) b h = ap (choice lim) (settle_pops p 3 s h)
ends_move p lim side s i (t.Sign g.Or) b h = logic_ends p lim Or 3 s (omega arith) h
ends_move p lim side s i (t.Sign g.And) b h = logic_ends p lim And 4 s (omega arith) h
ends_move p lim side s i (t.Sign g.Coalesce) b h = logic_ends p lim Coalesce 3 s (omega arith) h
ends_move p lim side s i (t.Sign g.Same) b h = ap (binary lim o.Same) (settle_pops p 5 s h)
ends_move p lim side s i (t.Sign g.NotSame) b h = ap (binary lim o.NotSame) (settle_pops p 5 s h)
ends_move p lim side s i (t.Sign g.Less) b h = ap (binary lim o.Less) (settle_pops p 6 s h)
ends_move p lim side s i (t.Sign g.LessSame) b h = ap (binary lim o.LessSame) (settle_pops p 6 s h)
ends_move p lim side s i (t.Sign g.More) b h = ap (binary lim o.More) (settle_pops p 6 s h)
ends_move p lim side s i (t.Sign g.MoreSame) b h = ap (binary lim o.MoreSame) (settle_pops p 6 s h)
ends_move p lim side s i (t.Sign g.Plus) b h = ap (binary lim o.Add) (settle_pops p 7 s h)
ends_move p lim side s i (t.Sign g.Minus) b h = ap (binary lim o.Sub) (settle_pops p 7 s h)
ends_move p lim side s i (t.Sign g.Star) b h = ap (binary lim o.Mul) (settle_pops p 8 s h)
ends_move p lim side s i (t.Sign _) b h = absurd (omega arith)
ends_move p lim side s i _ b h = absurd (omega arith)

no_finish : {k n m : ℕ} {f : Frame} {e c : Expr} (p : Ends k f e n c m) (s : List Frame) → finish (have e n) (f ∷ s) ≡ finish (have c m) s
no_finish p s = refl

pub ends : {k n m : ℕ} {f : Frame} {e c : Expr} (p : Ends k f e n c m) (lim : Limits) (side : Side) (s : List Frame) (r : List Lexeme) → k ≤ 9 → binds r ≤ k
    → runs lim side (have e n) (f ∷ s) r ≡ runs lim side (have c m) s r
ends {k = k} {n = n} {m = m} {f = f} {e = e} {c = c} p lim side s r i h = swap lim side (have e n) (have c m) (f ∷ s) s r k (no_finish p s) (ends_move p lim side s i) h

-- OPERATORS
binary_opens : (lim : Limits) (side : Side) (op : BinaryOp) (a : Expr) (n : ℕ) (s : List Frame) (r : List Lexeme) → level_in s ≤ level_of op → fits lim (suc n) ≡ true
    → after lim side r (binary lim op (settle (level_of op) a n s)) ≡ runs lim side need (in_binary op a (suc n) ∷ s) r
binary_opens lim side op a n s r h w =
    ap (λ q. after lim side r (binary lim op q)) (settle_stays (level_of op) a n s (omega (arith, level_great op)) (level_small op) h)
    ∙ if_holds lim side (fits lim (suc n)) need (in_binary op a (suc n) ∷ s) r w

pub sign_opens : (lim : Limits) (side : Side) (op : BinaryOp) (b : Bool) (a : Expr) (n : ℕ) (s : List Frame) (r : List Lexeme) → level_in s ≤ level_of op → fits lim (suc n) ≡ true
    → runs lim side (have a n) s (sign (sign_of op) b ∷ r) ≡ runs lim side need (in_binary op a (suc n) ∷ s) r
sign_opens lim side o.Same b a n s r h w = binary_opens lim side o.Same a n s r h w
sign_opens lim side o.NotSame b a n s r h w = binary_opens lim side o.NotSame a n s r h w
sign_opens lim side o.Less b a n s r h w = binary_opens lim side o.Less a n s r h w
sign_opens lim side o.LessSame b a n s r h w = binary_opens lim side o.LessSame a n s r h w
sign_opens lim side o.More b a n s r h w = binary_opens lim side o.More a n s r h w
sign_opens lim side o.MoreSame b a n s r h w = binary_opens lim side o.MoreSame a n s r h w
sign_opens lim side o.Add b a n s r h w = binary_opens lim side o.Add a n s r h w
sign_opens lim side o.Sub b a n s r h w = binary_opens lim side o.Sub a n s r h w
sign_opens lim side o.Mul b a n s r h w = binary_opens lim side o.Mul a n s r h w

-- a test behind which ? stands
pub question_opens : (lim : Limits) (side : Side) (b : Bool) (a : Expr) (n : ℕ) (s : List Frame) (r : List Lexeme) → level_in s ≤ 3 → fits lim (suc n) ≡ true
    → runs lim side (have a n) s (sign g.Question b ∷ r) ≡ runs lim side need (in_choice a (suc n) ∷ s) r
question_opens lim side b a n s r h w =
    ap (λ q. after lim side r (choice lim q)) (settle_stays 3 a n s (omega arith) (omega arith) h)
    ∙ if_holds lim side (fits lim (suc n)) need (in_choice a (suc n) ∷ s) r w

-- no form of the other kind waits where such a form may stand
apart : (op : LogicOp) (s : List Frame) → level_in s ≤ logic_level op → mixes op s ≡ false
apart And [] h = refl
apart Or [] h = refl
apart Coalesce [] h = refl
apart And (in_logic And a r ∷ s) h = refl
apart And (in_logic Or a r ∷ s) h = refl
apart And (in_logic Coalesce a r ∷ s) h = absurd (omega arith)
apart Or (in_logic And a r ∷ s) h = absurd (omega arith)
apart Or (in_logic Or a r ∷ s) h = absurd (omega arith)
apart Or (in_logic Coalesce a r ∷ s) h = absurd (omega arith)
apart Coalesce (in_logic And a r ∷ s) h = absurd (omega arith)
apart Coalesce (in_logic Or a r ∷ s) h = absurd (omega arith)
apart Coalesce (in_logic Coalesce a r ∷ s) h = absurd (omega arith)
apart And (_ ∷ s) h = refl
apart Or (_ ∷ s) h = refl
apart Coalesce (_ ∷ s) h = refl

levels_apart : (op : LogicOp) → logic_level op ≤ tighter op
levels_apart And = omega arith
levels_apart Or = omega arith
levels_apart Coalesce = omega arith

logic_some : (op : LogicOp) → 3 ≤ logic_level op
logic_some And = omega arith
logic_some Or = omega arith
logic_some Coalesce = omega arith

tighter_small : (op : LogicOp) → tighter op ≤ 8
tighter_small And = omega arith
tighter_small Or = omega arith
tighter_small Coalesce = omega arith

logic_go : (lim : Limits) (side : Side) (op : LogicOp) (a : Expr) (n : ℕ) (s : List Frame) (r : List Lexeme) → level_in s ≤ logic_level op → fits lim (suc n) ≡ true
    → after lim side r (at_logic lim op (logic_level op) a n s) ≡ runs lim side need (in_logic op a (suc n) ∷ s) r
logic_go lim side op a n s r h w =
    ap (λ q. after lim side r (cond (unmixed op q) (logic lim op (settle (logic_level op) a n s)) refuse)) (settle_stays (tighter op) a n s (omega (arith, logic_some op, levels_apart op)) (tighter_small op) (omega (arith, h, levels_apart op)))
    ∙ ap (λ c. after lim side r (cond (cond c false true) (logic lim op (settle (logic_level op) a n s)) refuse)) (apart op s h)
    ∙ ap (λ q. after lim side r (logic lim op q)) (settle_stays (logic_level op) a n s (logic_some op) (omega (arith, tighter_small op, levels_apart op)) h)
    ∙ if_holds lim side (fits lim (suc n)) need (in_logic op a (suc n) ∷ s) r w

abbrev pub logic_sign : LogicOp → Sign
logic_sign And = g.And
logic_sign Or = g.Or
logic_sign Coalesce = g.Coalesce

pub logic_opens : (lim : Limits) (side : Side) (op : LogicOp) (b : Bool) (a : Expr) (n : ℕ) (s : List Frame) (r : List Lexeme) → level_in s ≤ logic_level op → fits lim (suc n) ≡ true
    → runs lim side (have a n) s (sign (logic_sign op) b ∷ r) ≡ runs lim side need (in_logic op a (suc n) ∷ s) r
logic_opens lim side And b a n s r h w = logic_go lim side And a n s r h w
logic_opens lim side Or b a n s r h w = logic_go lim side Or a n s r h w
logic_opens lim side Coalesce b a n s r h w = logic_go lim side Coalesce a n s r h w

-- one more of a chain of || or of ??
pub or_goes_on : (lim : Limits) (side : Side) (b : Bool) (a c : Expr) (m n : ℕ) (s : List Frame) (r : List Lexeme) → level_in s ≤ 3 → fits lim (suc (max m n)) ≡ true
    → runs lim side (have c n) (in_logic Or a m ∷ s) (sign g.Or b ∷ r) ≡ runs lim side need (in_logic Or (Logic Or a c) (suc (max m n)) ∷ s) r
or_goes_on lim side b a c m n s r h w =
    ap (λ q. after lim side r (logic lim Or q)) (settle_stays 3 (Logic Or a c) (max m n) s (omega arith) (omega arith) h)
    ∙ if_holds lim side (fits lim (suc (max m n))) need (in_logic Or (Logic Or a c) (suc (max m n)) ∷ s) r w

pub coalesce_goes_on : (lim : Limits) (side : Side) (b : Bool) (a c : Expr) (m n : ℕ) (s : List Frame) (r : List Lexeme) → level_in s ≤ 3 → fits lim (suc (max m n)) ≡ true
    → runs lim side (have c n) (in_logic Coalesce a m ∷ s) (sign g.Coalesce b ∷ r) ≡ runs lim side need (in_logic Coalesce (Logic Coalesce a c) (suc (max m n)) ∷ s) r
coalesce_goes_on lim side b a c m n s r h w =
    ap (λ q. after lim side r (logic lim Coalesce q)) (settle_stays 3 (Logic Coalesce a c) (max m n) s (omega arith) (omega arith) h)
    ∙ if_holds lim side (fits lim (suc (max m n))) need (in_logic Coalesce (Logic Coalesce a c) (suc (max m n)) ∷ s) r w
