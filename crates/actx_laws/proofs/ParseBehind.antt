-- What a statement ends, and how statements begin.
use Rattle.std.proofs.Common.{◌≡◌, ℕ, max, ◌+◌, List, [], ◌∷◌, ◌++◌, Bool, true, false, Option, Some, refl, sym, ◌∙◌, ap, subst, arith, append_assoc}
use Rattle.actx_grammar.specs.declared.side.Side.{Side}
use Rattle.actx_grammar.specs.declared.token.Keyword.TheVariants as k
use Rattle.actx_grammar.specs.declared.token.Sign.TheVariants as g
use Rattle.actx_grammar.specs.declared.token.TokenKind.{TokenKind}
use Rattle.actx_grammar.specs.declared.token.TokenKind.TheVariants as t
use Rattle.actx_grammar.specs.Grammar.{IsBody, sp_normal_named, sp_generator_named, sp_async_named, SpellsStmt, sp_let, sp_const, sp_fun, sp_code, sp_block, sp_braces, sp_if, sp_if_else, sp_while, sp_do_while, sp_for, sp_for_of_let, sp_for_of_const, sp_break, sp_continue, sp_return_nothing, sp_return, sp_throw, sp_try_catch, sp_try_finally, sp_try_both, sp_value, sp_empty, sp_switch, SpellsStmts, sp_end, sp_next, SpellsClauses, sp_no_clauses, sp_default, sp_case}
use Rattle.actx_grammar.specs.Lexemes.{Lexeme, sign, kinds}
use Rattle.actx_grammar.specs.Parser.{move, finish, with_stmt, with_clause}
use Rattle.actx_grammar.specs.ParserFunctions.{begins_operand}
use Rattle.actx_grammar.specs.ParserState.{Limits, ListOwner, program, clause_of, Frame, in_value, yes_of, no_of, while_of, for_body, for_of_body, in_list, start, body_start, have_stmt, finally_next, clause_next, levels, here}
use Rattle.actx_grammar.specs.Tree.{Expr, Stmt, If, While, For, ForOf, Try, no_stmt, some_stmt, no_last, Init, MaybeExpr, Catch, Clauses, Stmts}
use Rattle.actx_laws.proofs.ParseBegins.{BeginsValue, first_operand, value_begins, some_depth}
use Rattle.actx_laws.proofs.ParseCover.{branch_begins, start_begins}
use Rattle.actx_laws.proofs.ParseReads.{BehindKind, Behind}
use Rattle.actx_laws.proofs.ParseRuns.{runs, after, Fit}

-- WHAT STANDS BEHIND
weaker_kind : (b : Bool) (w : TokenKind) → BehindKind true w → BehindKind b w
weaker_kind true w h = h
weaker_kind false (t.Keyword k.Finally) h = absurd h
weaker_kind false (t.Keyword k.Else) h = tt
weaker_kind false (t.Keyword _) h = tt
weaker_kind false _ h = tt

pub weaker : (b : Bool) (r : List Lexeme) → Behind true r → Behind b r
weaker b [] h = tt
weaker b (w ∷ r) h = weaker_kind b w.kind h

-- WHAT IS ENDED
-- an if that no else follows
yes_move : (lim : Limits) (side : Side) (e : Expr) (st : Stmt) (m n : ℕ) (s : List Frame) (w : TokenKind) (b : Bool) → BehindKind true w → move lim side (have_stmt st n) (yes_of e m ∷ s) w b ≡ move lim side (have_stmt (If e st no_stmt) (max m n)) s w b
yes_move lim side e st m n s (t.Keyword k.Else) b h = absurd h
yes_move lim side e st m n s (t.Keyword _) b h = refl
yes_move lim side e st m n s _ b h = refl

pub yes_ends : (lim : Limits) (side : Side) (e : Expr) (st : Stmt) (m n : ℕ) (s : List Frame) (r : List Lexeme) → Behind true r → runs lim side (have_stmt st n) (yes_of e m ∷ s) r ≡ runs lim side (have_stmt (If e st no_stmt) (max m n)) s r
yes_ends lim side e st m n s [] h = refl
yes_ends lim side e st m n s (w ∷ r) h = ap (after lim side r) (yes_move lim side e st m n s w.kind w.line_before h)

-- a statement that ends with its part, whatever follows
pub data Closes : Frame → Stmt → ℕ → Stmt → ℕ → Type 0 where
  closes_no : (e : Expr) (branch st : Stmt) (m n : ℕ) → Closes (no_of e branch m) st n (If e branch (some_stmt st)) (max m n)
  closes_while : (e : Expr) (st : Stmt) (m n : ℕ) → Closes (while_of e m) st n (While e st) (max m n)
  closes_for : (i : Init) (test update : MaybeExpr) (st : Stmt) (m n : ℕ) → Closes (for_body i test update m) st n (For i test update st) (max m n)
  closes_for_of : (c : Bool) (x : List ℕ) (e : Expr) (st : Stmt) (m n : ℕ) → Closes (for_of_body c x e m) st n (ForOf c x e st) (max m n)

closes_move : {f : Frame} {st dt : Stmt} {n m : ℕ} (p : Closes f st n dt m) (lim : Limits) (side : Side) (s : List Frame) (w : TokenKind) (b : Bool) → move lim side (have_stmt st n) (f ∷ s) w b ≡ move lim side (have_stmt dt m) s w b
closes_move (closes_no e branch st m n) lim side s (t.Keyword k.Else) b = refl
closes_move (closes_no e branch st m n) lim side s (t.Keyword _) b = refl
closes_move (closes_no e branch st m n) lim side s _ b = refl
closes_move (closes_while e st m n) lim side s (t.Keyword k.Else) b = refl
closes_move (closes_while e st m n) lim side s (t.Keyword _) b = refl
closes_move (closes_while e st m n) lim side s _ b = refl
closes_move (closes_for i test update st m n) lim side s (t.Keyword k.Else) b = refl
closes_move (closes_for i test update st m n) lim side s (t.Keyword _) b = refl
closes_move (closes_for i test update st m n) lim side s _ b = refl
closes_move (closes_for_of c x e st m n) lim side s (t.Keyword k.Else) b = refl
closes_move (closes_for_of c x e st m n) lim side s (t.Keyword _) b = refl
closes_move (closes_for_of c x e st m n) lim side s _ b = refl

closes_finish : {f : Frame} {st dt : Stmt} {n m : ℕ} (p : Closes f st n dt m) (s : List Frame) → finish (have_stmt st n) (f ∷ s) ≡ finish (have_stmt dt m) s
closes_finish (closes_no e branch st m n) s = refl
closes_finish (closes_while e st m n) s = refl
closes_finish (closes_for i test update st m n) s = refl
closes_finish (closes_for_of c x e st m n) s = refl

pub closes : {f : Frame} {st dt : Stmt} {n m : ℕ} (p : Closes f st n dt m) (lim : Limits) (side : Side) (s : List Frame) (r : List Lexeme) → runs lim side (have_stmt st n) (f ∷ s) r ≡ runs lim side (have_stmt dt m) s r
closes p lim side s [] = closes_finish p s
closes p lim side s (w ∷ r) = ap (after lim side r) (closes_move p lim side s w.kind w.line_before)

-- a try that no finally follows
finally_move : (lim : Limits) (side : Side) (bs : Stmts) (c : Catch) (n : ℕ) (s : List Frame) (w : TokenKind) (b d : Bool) → BehindKind d w → move lim side (finally_next bs c n) s w b ≡ move lim side (have_stmt (Try bs c no_last) n) s w b
finally_move lim side bs c n s (t.Keyword k.Finally) b d h = absurd h
finally_move lim side bs c n s (t.Keyword _) b d h = refl
finally_move lim side bs c n s _ b d h = refl

pub finally_absent : (lim : Limits) (side : Side) (bs : Stmts) (c : Catch) (n : ℕ) (s : List Frame) (r : List Lexeme) (d : Bool) → Behind d r → runs lim side (finally_next bs c n) s r ≡ runs lim side (have_stmt (Try bs c no_last) n) s r
finally_absent lim side bs c n s [] d h = refl
finally_absent lim side bs c n s (w ∷ r) d h = ap (after lim side r) (finally_move lim side bs c n s w.kind w.line_before d h)

-- a statement of a list
list_move : (lim : Limits) (side : Side) (owner : ListOwner) (bs : Stmts) (st : Stmt) (m n : ℕ) (s : List Frame) (w : TokenKind) (b : Bool) → BehindKind true w → move lim side (have_stmt st n) (in_list owner bs m ∷ s) w b ≡ move lim side start (in_list owner (with_stmt bs st) (max m n) ∷ s) w b
list_move lim side owner bs st m n s (t.Keyword k.Else) b h = absurd h
list_move lim side owner bs st m n s (t.Keyword _) b h = refl
list_move lim side owner bs st m n s _ b h = refl

list_finish : (owner : ListOwner) (bs : Stmts) (st : Stmt) (m n : ℕ) (s : List Frame) → finish (have_stmt st n) (in_list owner bs m ∷ s) ≡ finish start (in_list owner (with_stmt bs st) (max m n) ∷ s)
list_finish program bs st m n [] = refl
list_finish program bs st m n (f ∷ s) = refl
list_finish _ bs st m n s = refl

pub list_ends : (lim : Limits) (side : Side) (owner : ListOwner) (bs : Stmts) (st : Stmt) (m n : ℕ) (s : List Frame) (r : List Lexeme) → Behind true r → runs lim side (have_stmt st n) (in_list owner bs m ∷ s) r ≡ runs lim side start (in_list owner (with_stmt bs st) (max m n) ∷ s) r
list_ends lim side owner bs st m n s [] h = list_finish owner bs st m n s
list_ends lim side owner bs st m n s (w ∷ r) h = ap (after lim side r) (list_move lim side owner bs st m n s w.kind w.line_before h)

-- HOW STATEMENTS BEGIN
operand_behind : (w : TokenKind) → begins_operand w ≡ true → BehindKind true w
operand_behind (t.Keyword k.Finally) h = absurd (cc)
operand_behind (t.Keyword k.Else) h = absurd (cc)
operand_behind (t.Keyword _) h = tt
operand_behind _ h = tt

value_behind : (x r : List Lexeme) → BeginsValue (kinds x) → Behind true (x ++ r)
value_behind [] r h = absurd h
value_behind (w ∷ x) r h = operand_behind w.kind (first_operand w.kind (kinds x) h)

stmt_behind : {side : Side} {most : Option ℕ} {d : ℕ} {st : Stmt} {x : List Lexeme} → SpellsStmt side most d st x → (r : List Lexeme) → Behind true (x ++ r)
stmt_behind (sp_let b c p) r = tt
stmt_behind (sp_const b c p) r = tt
stmt_behind (sp_fun (sp_code b c (sp_normal_named i) q p)) r = tt
stmt_behind (sp_fun (sp_code b c (sp_generator_named j i) q p)) r = tt
stmt_behind (sp_fun (sp_code b c (sp_async_named j i) q p)) r = tt
stmt_behind (sp_block (sp_braces b c p)) r = tt
stmt_behind (sp_if b c f p q) r = tt
stmt_behind (sp_if_else b c f i p q h o) r = tt
stmt_behind (sp_while b c f p q) r = tt
stmt_behind (sp_do_while b c f i j q p) r = tt
stmt_behind (sp_for b c f i j p q o v) r = tt
stmt_behind (sp_for_of_let b c f i j l h n p q) r = tt
stmt_behind (sp_for_of_const b c f i j l h n p q) r = tt
stmt_behind sp_break r = tt
stmt_behind sp_continue r = tt
stmt_behind sp_return_nothing r = tt
stmt_behind (sp_return b c p h) r = tt
stmt_behind (sp_throw b c p h) r = tt
stmt_behind (sp_try_catch b p q) r = tt
stmt_behind (sp_try_finally b f p q) r = tt
stmt_behind (sp_try_both b f p q o) r = tt
stmt_behind (sp_value {x = x} b p h) r = subst (Behind true) (sym (append_assoc x (sign g.Semicolon b ∷ []) r)) (value_behind x (sign g.Semicolon b ∷ r) (value_begins p))
stmt_behind sp_empty r = tt
stmt_behind (sp_switch b c f i j h p q) r = tt

pub stmts_behind : {side : Side} {most : Option ℕ} {d : ℕ} {ss : Stmts} {x : List Lexeme} → SpellsStmts side most d ss x → (r : List Lexeme) → Behind true r → Behind true (x ++ r)
stmts_behind sp_end r h = h
stmts_behind (sp_next {x = x} {y = y} p ps) r h = subst (Behind true) (sym (append_assoc x y r)) (stmt_behind p (y ++ r))

pub clauses_behind : {side : Side} {most : Option ℕ} {d : ℕ} {cs : Clauses} {x : List Lexeme} → SpellsClauses side most d cs x → (b : Bool) (r : List Lexeme) → Behind true (x ++ sign g.CloseBrace b ∷ r)
clauses_behind sp_no_clauses b r = tt
clauses_behind (sp_default p) b r = tt
clauses_behind (sp_case c f i h p q) b r = tt

-- a clause that ends where another begins, or with the switch
pub clause_ends : {side : Side} {most : Option ℕ} {d : ℕ} {cs : Clauses} {x : List Lexeme} (lim : Limits) (p : SpellsClauses side most d cs x) (e : Expr) (ds : Clauses) (number : ℕ) (ss : Stmts) (n : ℕ) (s : List Frame) (b : Bool) (r : List Lexeme)
    → runs lim side start (in_list (clause_of e ds (Some number)) ss n ∷ s) (x ++ sign g.CloseBrace b ∷ r) ≡ runs lim side (clause_next e (with_clause ds (Some number) ss) n) s (x ++ sign g.CloseBrace b ∷ r)
clause_ends lim sp_no_clauses e ds number ss n s b r = refl
clause_ends lim (sp_default p) e ds number ss n s b r = refl
clause_ends lim (sp_case c f i h p q) e ds number ss n s b r = refl

-- a statement that is a branch or body begins as one of a list
pub body_same : {side : Side} {most : Option ℕ} {d : ℕ} {st : Stmt} {x : List Lexeme} (lim : Limits) (p : SpellsStmt side most d st x) → IsBody st → (s : List Frame) (r : List Lexeme) → Fit lim (d + levels s) → runs lim side body_start s (x ++ r) ≡ runs lim side start s (x ++ r)
body_same lim (sp_let b c p) h s r f = absurd h
body_same lim (sp_const b c p) h s r f = absurd h
body_same lim (sp_fun p) h s r f = absurd h
body_same lim (sp_block (sp_braces b c p)) h s r f = refl
body_same lim (sp_if b c i p q) h s r f = refl
body_same lim (sp_if_else b c i j p q v o) h s r f = refl
body_same lim (sp_while b c i p q) h s r f = refl
body_same lim (sp_do_while b c i j l q p) h s r f = refl
body_same lim (sp_for b c i j l p q o v) h s r f = refl
body_same lim (sp_for_of_let b c i j l m v n p q) h s r f = refl
body_same lim (sp_for_of_const b c i j l m v n p q) h s r f = refl
body_same lim sp_break h s r f = refl
body_same lim sp_continue h s r f = refl
body_same lim sp_return_nothing h s r f = refl
body_same lim (sp_return b c p i) h s r f = refl
body_same lim (sp_throw b c p i) h s r f = refl
body_same lim (sp_try_catch b p q) h s r f = refl
body_same lim (sp_try_finally b i p q) h s r f = refl
body_same lim (sp_try_both b i p q o) h s r f = refl
body_same {side = side} lim (sp_value {d = d} {x = x} b p i) h s r f =
    ap (runs lim side body_start s) (append_assoc x (sign g.Semicolon b ∷ []) r)
    ∙ branch_begins lim side s x (sign g.Semicolon b ∷ r) (value_begins p) i
    ∙ sym (start_begins lim side s x (sign g.Semicolon b ∷ r) (value_begins p) i (f (here s) (omega arith)) (f (here (in_value ∷ s)) (omega (arith, some_depth p))))
    ∙ sym (ap (runs lim side start s) (append_assoc x (sign g.Semicolon b ∷ []) r))
body_same lim sp_empty h s r f = refl
body_same lim (sp_switch b c i j l v p q) h s r f = refl
