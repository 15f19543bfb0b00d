-- The walk over a tree along the tokens that spell it notes where its nodes begin.
use Rattle.std.proofs.Common.{◌≡◌, ℕ, zero, suc, ◌+◌, List, [], ◌∷◌, ◌++◌, length, Bool, true, false, if◌then◌else◌, codes, Option, Some, None, refl, sym, ◌∙◌, ap, subst, arith, append_assoc}
use Rattle.std.proofs.lemmas.List.{append-nil, length-append}
use Rattle.actx_grammar.specs.declared.operators.BinaryOp.{BinaryOp}
use Rattle.actx_grammar.specs.declared.operators.BinaryOp.TheVariants as ob
use Rattle.actx_grammar.specs.declared.operators.UnaryOp.{UnaryOp}
use Rattle.actx_grammar.specs.declared.operators.UnaryOp.TheVariants as ou
use Rattle.actx_grammar.specs.declared.operators.Form.{Form}
use Rattle.actx_grammar.specs.declared.operators.Form.TheVariants as fm
use Rattle.actx_grammar.specs.declared.operators.FunctionKind.{FunctionKind}
use Rattle.actx_grammar.specs.declared.side.Side.{Side}
use Rattle.actx_grammar.specs.declared.side.Side.TheVariants.{Source, Plain}
use Rattle.actx_grammar.specs.declared.token.Keyword.TheVariants as k
use Rattle.actx_grammar.specs.declared.token.Sign.TheVariants as s
use Rattle.actx_grammar.specs.declared.token.TokenKind.{TokenKind}
use Rattle.actx_grammar.specs.declared.token.TokenKind.TheVariants as t
use Rattle.actx_laws.proofs.ParseBegins.{value_begins}
use Rattle.actx_grammar.specs.Forms.{unary_word, sign_of, bump_sign, form_words, HasWords}
use Rattle.actx_grammar.specs.Grammar.{Spells, SpellsArguments, SpellsArrow, SpellsArrowParams, SpellsBlock, SpellsBody, SpellsCatch, SpellsClauses, SpellsCoalesce, SpellsConsts, SpellsFunction, SpellsHead, SpellsInit, SpellsKey, SpellsLet, SpellsLets, SpellsList, SpellsMaybe, SpellsNames, SpellsOr, SpellsParams, SpellsPropKey, SpellsProperties, SpellsProperty, SpellsSome, SpellsStmt, SpellsStmts, sp_absent, sp_and, sp_arguments, sp_arguments_comma, sp_arrow, sp_arrow_head, sp_async, sp_async_arrow_head, sp_async_named, sp_await, sp_bare_param, sp_binary, sp_block, sp_body, sp_braces, sp_break, sp_bump_before, sp_bump_behind, sp_call, sp_call_with, sp_case, sp_catch, sp_catch_name, sp_change, sp_choice, sp_coalesce, sp_code, sp_computed, sp_const, sp_continue, sp_default, sp_do_while, sp_dot, sp_empty, sp_end, sp_false, sp_first_coalesce, sp_first_or, sp_fixed, sp_for, sp_for_of_const, sp_for_of_let, sp_form, sp_fun, sp_function, sp_generator, sp_generator_named, sp_if, sp_if_else, sp_index, sp_init_const, sp_init_let, sp_init_nothing, sp_init_value, sp_key_value, sp_let, sp_let_alone, sp_let_value, sp_listed_params, sp_member, sp_method, sp_more, sp_more_coalesce, sp_more_consts, sp_more_lets, sp_more_names, sp_more_or, sp_more_properties, sp_name, sp_name_alone, sp_next, sp_no_arguments, sp_no_clauses, sp_no_params, sp_no_properties, sp_normal, sp_normal_named, sp_null, sp_number, sp_object, sp_one, sp_one_const, sp_one_let, sp_one_name, sp_one_property, sp_or, sp_params, sp_params_comma, sp_paren, sp_present, sp_properties, sp_properties_comma, sp_return, sp_return_nothing, sp_set_member, sp_set_name, sp_short_arrow, sp_switch, sp_text, sp_this, sp_throw, sp_true, sp_try_both, sp_try_catch, sp_try_finally, sp_unary, sp_undefined, sp_undefined_alone, sp_value, sp_while, sp_yield, sp_yield_all, sp_yield_nothing, StartsBody, IsBodyStart}
use Rattle.actx_grammar.specs.Lexemes.{Lexeme, sign, keyword, lexeme, kinds}
use Rattle.actx_grammar.specs.Names.{word_of}
use Rattle.actx_grammar.specs.Places.{arguments_places, arrow_params_places, arrow_places, block_places, body_places, catch_places, clauses_places, coalesce_places, consts_places, expr_places, function_places, head_places, init_places, key_places, let_places, lets_places, list_places, maybe_places, names_places, or_places, params_places, prop_key_places, properties_places, property_places, some_places, stmt_places, stmts_places}
use Rattle.actx_grammar.specs.Tree.{Expr, Exprs, MaybeExpr, Key, PropKey, Fixed, Computed, Properties, Code, code, Function, Built, Named, Undefined, LetItems, ConstItems, Init, Stmt, Catch, Clauses, Stmts, end, next, Return, some_expr}
use Rattle.actx_places.specs.Walk.{Group, group, Walk, walk, at, rest, places, is_sign, starts_with, has_head, step, pass, pass_if, comma, mark, mark_at, later, settle, begin, leave, close, own, own_arrow, arrow_params, params, own_name, head_words, is_arrow, by_next, spine, maybe, member_key, exprs, properties, prop_key, method, arrow_body, short, lets, let_value, consts, init, stmt, caught, finally, clauses, stmts, places_of}
use Rattle.actx_places.proofs.WalkSteps.{Goes, goes_end, goes_step, goes_mark, goes_before, goes_last, goes_as, Row, Spine, closed, row_as, row_before, goes_expr, in_parens, left, leaf}
use Rattle.actx_places.proofs.WalkRows.{goes_by, names_go, params_go, goes_no_comma, goes_comma, head_goes}
use Rattle.actx_places.proofs.WalkArrows.{arrow_goes}
use Rattle.actx_places.proofs.WalkLists.{exprs_last, lets_last, consts_last, whole, properties_last, form_row, head_row, no_arrow}
use Rattle.actx_places.proofs.WalkProperties.{Stays, stays, colon_goes, by_name, method_goes}

-- what stands behind a left operand
abbrev pub operands : Expr → Expr → Walk → Walk
operands a b w = leave (spine b (begin (step (settle (length (places w)) (spine a (later w))))))

abbrev pub arguments : Exprs → Walk → Walk
arguments es w = step (comma (exprs es (step w)))

abbrev pub braces : Stmts → Walk → Walk
braces ss w = step (stmts ss (step w))

-- a walk that is said otherwise
spine_by : {f g : Walk → Walk} {x : List Lexeme} {p : ℕ → List ℕ} → ((w : Walk) → g w ≡ f w) → Spine f x p → Spine g x p
spine_by e h = record { closes = λ bs c n ts ps gs i. e _ ∙ h.closes bs c n ts ps gs i }

built_is : (side : Side) (form : Form) (es : Exprs) (w : Walk) → HasWords side form → spine (Built form es) w ≡ close (arguments es (pass (length (form_words form)) (own w)))
built_is Source fm.CallWith es w h = absurd h
built_is Plain fm.CallWith es w h = absurd h
built_is side fm.Log es w h = refl
built_is side _ es w h = refl

-- a list of statements as an arrow's body
body_goes : (ss : Stmts) {y : List Lexeme} {q : ℕ → List ℕ} (b c : Bool) → Goes (stmts ss) y q → Goes (arrow_body ss) (sign s.OpenBrace b ∷ (y ++ sign s.CloseBrace c ∷ [])) (λ n. q (suc n))
body_goes end b c h = record { passes = λ n ts ps gs. (goes_step (sign s.OpenBrace b) (goes_last (sign s.CloseBrace c) h)).passes n ts ps gs }
body_goes (next st ss) b c h = record { passes = λ n ts ps gs. (goes_step (sign s.OpenBrace b) (goes_last (sign s.CloseBrace c) h)).passes n ts ps gs }

-- an expression as an arrow's body
no_brace : (w : TokenKind) (ws : List TokenKind) → IsBodyStart (w ∷ ws) → is_sign s.OpenBrace w ≡ false
no_brace (t.Sign s.OpenBrace) ws h = absurd h
no_brace (t.Sign _) ws h = refl
no_brace _ ws h = refl

short_goes : {side : Side} {most : Option ℕ} {l d : ℕ} {e : Expr} {y : List Lexeme} {q : ℕ → List ℕ} → Spells side most l d e y → StartsBody y → Goes (λ w. leave (spine e (begin w))) y q → Goes (arrow_body (next (Return (some_expr e)) end)) y (λ n. n ∷ q n)
short_goes {y = []} p h g = absurd (value_begins p)
short_goes {e = e} {y = w ∷ y} p h g = record { passes = λ n ts ps gs. ap (λ b. if b then step (stmts (next (Return (some_expr e)) end) (step (walk n ((w ∷ y) ++ ts) ps gs))) else leave (spine e (begin (mark (walk n ((w ∷ y) ++ ts) ps gs))))) (no_brace w.kind (kinds y) h) ∙ (goes_mark g).passes n ts ps gs }

-- LEFT OPERANDS
left_member : {side : Side} {most : Option ℕ} {d : ℕ} {key : Key} {f g : Walk → Walk} {x y : List Lexeme} {p q : ℕ → List ℕ} → SpellsKey side most d key y → Spine f x p → Goes g y q → Row (λ w. g (settle (length (places w)) (f (later w)))) (x ++ y) (λ n. n ∷ (p n ++ q (n + length x)))
left_member (sp_dot {b = b} e h i) a h2 = left (sign s.Dot b) refl a h2
left_member (sp_index b c p) a h = left (sign s.OpenBracket b) refl a h

left_set : {side : Side} {most : Option ℕ} {d : ℕ} {key : Key} {f g : Walk → Walk} {x y : List Lexeme} {p q : ℕ → List ℕ} (r : List Lexeme) → SpellsKey side most d key y → Spine f x p → Goes g (y ++ r) q → Row (λ w. g (settle (length (places w)) (f (later w)))) (x ++ (y ++ r)) (λ n. n ∷ (p n ++ q (n + length x)))
left_set r (sp_dot {b = b} e h i) a h2 = left (sign s.Dot b) refl a h2
left_set r (sp_index b c p) a h = left (sign s.OpenBracket b) refl a h

left_call : {side : Side} {most : Option ℕ} {d : ℕ} {es : Exprs} {f g : Walk → Walk} {x y : List Lexeme} {p q : ℕ → List ℕ} → SpellsArguments side most d es y → Spine f x p → Goes g y q → Row (λ w. g (settle (length (places w)) (f (later w)))) (x ++ y) (λ n. n ∷ (p n ++ q (n + length x)))
left_call (sp_no_arguments {b = b}) a h = left (sign s.OpenParen b) refl a h
left_call (sp_arguments b c p i) a h = left (sign s.OpenParen b) refl a h
left_call (sp_arguments_comma b c f p i) a h = left (sign s.OpenParen b) refl a h

-- FIRST TOKENS
arrow_kind : {side : Side} {most : Option ℕ} {kind : FunctionKind} {xs : List (List ℕ)} {x : List Lexeme} → SpellsArrow side most kind xs x → is_arrow kind ≡ true
arrow_kind (sp_arrow_head p) = refl
arrow_kind (sp_async_arrow_head e p i) = refl

operator_closes : (op : BinaryOp) → is_sign s.CloseParen (t.Sign (sign_of op)) ≡ false
operator_closes ob.Add = refl
operator_closes _ = refl

unary_opens : (op : UnaryOp) → is_sign s.OpenParen (unary_word op) ≡ false
unary_opens ou.Not = refl
unary_opens _ = refl

bump_opens : (up : Bool) → is_sign s.OpenParen (t.Sign (bump_sign up)) ≡ false
bump_opens true = refl
bump_opens false = refl

chosen : (b c : Bool) (v w : Walk) → b ≡ c → close (if b then v else w) ≡ close (if c then v else w)
chosen b c v w e = cc

-- two tokens at the end
goes_last_two : {f : Walk → Walk} {x : List Lexeme} {p : ℕ → List ℕ} (u v : Lexeme) → Goes f x p → Goes (λ w. pass 2 (f w)) (x ++ u ∷ v ∷ []) p
goes_last_two {x = x} {p = p} u v h = goes_as (goes_before h (goes_step u (goes_step v goes_end))) refl (λ n. append-nil (p n))

-- PROPERTIES
stays_by : {f g : Walk → Walk} {x : List Lexeme} {p : ℕ → List ℕ} → ((w : Walk) → g w ≡ f w) → Stays f x p → Stays g x p
stays_by e h = record { before = λ u i j n ts ps gs. e _ ∙ h.before u i j n ts ps gs }

stays_before : {f g : Walk → Walk} {x y : List Lexeme} {p q : ℕ → List ℕ} (b : Bool) → Stays f x p → Stays g y q → Stays (λ w. g (step (f w))) (x ++ sign s.Comma b ∷ y) (λ n. p n ++ q (suc (n + length x)))
stays_before {f = f} {g = g} {x = x} {y = y} {p = p} {q = q} b h k = record {
  before = λ u i j n ts ps gs.
      ap (λ z. g (step (f (walk n z ps gs)))) (append_assoc x (sign s.Comma b ∷ y) (u ∷ ts))
      ∙ ap (λ z. g (step z)) (h.before (sign s.Comma b) refl refl n (y ++ u ∷ ts) ps gs)
      ∙ k.before u i j (suc (n + length x)) ts (ps ++ p n) gs
      ∙ (let e : length (x ++ sign s.Comma b ∷ y) ≡ length x + suc (length y) = length-append x (sign s.Comma b ∷ y) in
      let m : suc (n + length x) + length y ≡ n + length (x ++ sign s.Comma b ∷ y) = omega arith in
      let o = append_assoc ps (p n) (q (suc (n + length x))) in cc);
}

stays_close : {f : Walk → Walk} {x : List Lexeme} {p : ℕ → List ℕ} (c : Bool) → Stays f x p → Goes (λ w. step (comma (f w))) (x ++ sign s.CloseBrace c ∷ []) p
stays_close {f = f} {x = x} {p = p} c h = record {
  passes = λ n ts ps gs.
      ap (λ z. step (comma (f (walk n z ps gs)))) (append_assoc x (sign s.CloseBrace c ∷ []) ts)
      ∙ ap (λ z. step (comma z)) (h.before (sign s.CloseBrace c) refl refl n ts ps gs)
      ∙ (let e : length (x ++ sign s.CloseBrace c ∷ []) ≡ length x + 1 = length-append x (sign s.CloseBrace c ∷ []) in
      let m : suc (n + length x) ≡ n + length (x ++ sign s.CloseBrace c ∷ []) = omega arith in cc);
}

stays_comma : {f : Walk → Walk} {x : List Lexeme} {p : ℕ → List ℕ} (b c : Bool) → Stays f x p → Goes (λ w. step (comma (f w))) ((x ++ sign s.Comma b ∷ []) ++ sign s.CloseBrace c ∷ []) p
stays_comma {f = f} {x = x} {p = p} b c h = record {
  passes = λ n ts ps gs.
      ap (λ z. step (comma (f (walk n z ps gs)))) (append_assoc (x ++ sign s.Comma b ∷ []) (sign s.CloseBrace c ∷ []) ts ∙ append_assoc x (sign s.Comma b ∷ []) (sign s.CloseBrace c ∷ ts))
      ∙ ap (λ z. step (comma z)) (h.before (sign s.Comma b) refl refl n (sign s.CloseBrace c ∷ ts) ps gs)
      ∙ (let e : length ((x ++ sign s.Comma b ∷ []) ++ sign s.CloseBrace c ∷ []) ≡ length (x ++ sign s.Comma b ∷ []) + 1 = length-append (x ++ sign s.Comma b ∷ []) (sign s.CloseBrace c ∷ []) in
      let i : length (x ++ sign s.Comma b ∷ []) ≡ length x + 1 = length-append x (sign s.Comma b ∷ []) in
      let m : suc (suc (n + length x)) ≡ n + length ((x ++ sign s.Comma b ∷ []) ++ sign s.CloseBrace c ∷ []) = omega arith in cc);
}

alone : (u : List ℕ) (e : Expr) (w : Lexeme) → ((ts : List Lexeme) → has_head e ts ≡ false) → Stays (whole (Fixed u) e) (w ∷ []) (λ n. n ∷ n ∷ [])
alone u e w h = record {
  before = λ v i j n ts ps gs.
      ap (λ z. by_next (λ v. leave (spine e (begin (step v)))) (method e n) (mark_at n) (prop_key (Fixed u) (pass_if z (walk n (w ∷ v ∷ ts) ps gs)))) (h (w ∷ v ∷ ts))
      ∙ by_name (λ v. leave (spine e (begin (step v)))) (method e n) (mark_at n) (walk (suc n) (v ∷ ts) (ps ++ n ∷ []) gs) i j
      ∙ (let a : suc n ≡ n + 1 = omega arith in let b = append_assoc ps (n ∷ []) (n ∷ []) in cc);
}

mutual
  -- EXPRESSIONS
  pub spine_goes : {side : Side} {most : Option ℕ} {l d : ℕ} {e : Expr} {x : List Lexeme} (p : Spells side most l d e x) → Spine (spine e) x (λ n. expr_places n p)
  spine_goes (sp_arrow {kind = kind} {xs = xs} {ss = ss} b c i a p) =
      spine_by (λ w. chosen (is_arrow kind) true (arrow_body ss (step (arrow_params xs (pass (head_words kind) (own_arrow kind w))))) (braces ss (params xs (own_name None (pass (head_words kind) (own w))))) (arrow_kind a))
      (closed (arrow_goes a (body_goes ss b c (stmts_goes p))))
  spine_goes (sp_short_arrow {kind = kind} {xs = xs} {e = e} i a p h) =
      let ss : Stmts = next (Return (some_expr e)) end in
      spine_by (λ w. chosen (is_arrow kind) true (arrow_body ss (step (arrow_params xs (pass (head_words kind) (own_arrow kind w))))) (braces ss (params xs (own_name None (pass (head_words kind) (own w))))) (arrow_kind a))
      (closed (arrow_goes a (short_goes p h (goes_expr (spine_goes p)))))
  spine_goes (sp_yield_nothing {b = b} i j) = closed (leaf (keyword k.Yield b) refl (goes_step (keyword k.Yield b) goes_end))
  spine_goes (sp_yield {b = b} i j p q) = closed (leaf (keyword k.Yield b) refl (goes_step (keyword k.Yield b) (goes_expr (spine_goes p))))
  spine_goes (sp_yield_all {b = b} i j p) = closed (leaf (keyword k.Yield b) refl (goes_step (keyword k.Yield b) (goes_step (sign s.Star false) (goes_expr (spine_goes p)))))
  spine_goes (sp_set_name {x = x} {b = b} {c = c} i j p) = closed (leaf (lexeme (t.Name x) b) refl (goes_step (lexeme (t.Name x) b) (goes_step (sign s.Assign c) (goes_expr (spine_goes p)))))
  spine_goes (sp_set_member {x = x} {y = y} {z = z} b i p q r) =
      closed (row_as (left_set (sign s.Assign b ∷ z) q (spine_goes p) (goes_before (key_goes q) (goes_step (sign s.Assign b) (goes_expr (spine_goes r))))) (sym (append_assoc x y (sign s.Assign b ∷ z)))
      (λ n. ap (λ w. n ∷ w) (sym (append_assoc (expr_places n p) (key_places (n + length x) q) (expr_places (suc (n + length x + length y)) r)))))
  spine_goes (sp_change {x = x} {b = b} {c = c} {sg = sg} i j h p) = closed (leaf (lexeme (t.Name x) b) refl (goes_step (lexeme (t.Name x) b) (goes_step (sign sg c) (goes_expr (spine_goes p)))))
  spine_goes (sp_choice {x = x} {y = y} b c i p q r) =
      closed (row_as (left (sign s.Question b) refl (spine_goes p) (goes_step (sign s.Question b) (goes_before (goes_expr (spine_goes q)) (goes_step (sign s.Colon c) (goes_expr (spine_goes r)))))) refl
      (λ n. let e : suc (suc (n + length x) + length y) ≡ suc (suc (n + length x + length y)) = omega arith in
      let a = append_assoc (expr_places n p) (expr_places (suc (n + length x)) q) (expr_places (suc (suc (n + length x) + length y)) r) in cc))
  spine_goes (sp_or i p) = closed (or_goes p)
  spine_goes (sp_coalesce i p) = closed (coalesce_goes p)
  spine_goes (sp_and b i p q) = closed (left (sign s.And b) refl (spine_goes p) (goes_step (sign s.And b) (goes_expr (spine_goes q))))
  spine_goes (sp_binary op b i p q) = closed (left (sign (sign_of op) b) (operator_closes op) (spine_goes p) (goes_step (sign (sign_of op) b) (goes_expr (spine_goes q))))
  spine_goes (sp_unary {b = b} op i p) = closed (leaf (lexeme (unary_word op) b) (unary_opens op) (goes_step (lexeme (unary_word op) b) (goes_expr (spine_goes p))))
  spine_goes (sp_await {b = b} i j p) = closed (leaf (keyword k.Await b) refl (goes_step (keyword k.Await b) (goes_expr (spine_goes p))))
  spine_goes (sp_bump_before {x = x} {up = up} {b = b} {c = c} i j) = closed (leaf (sign (bump_sign up) b) (bump_opens up) (goes_step (sign (bump_sign up) b) (goes_step (lexeme (t.Name x) c) goes_end)))
  spine_goes (sp_bump_behind {x = x} {up = up} {b = b} i j) = closed (leaf (lexeme (t.Name x) b) refl (goes_step (lexeme (t.Name x) b) (goes_step (sign (bump_sign up) false) goes_end)))
  spine_goes (sp_member i p q) = closed (left_member q (spine_goes p) (key_goes q))
  spine_goes (sp_call i p a) = closed (left_call a (spine_goes p) (arguments_goes a))
  spine_goes {side = side} (sp_form {es = es} {y = y} form x i h w a u) = spine_by (λ z. built_is side form es z h) (closed (form_row side form x y h w (arguments_goes a)))
  spine_goes (sp_call_with b c h i p a) = closed (left (sign s.Dot b) refl (spine_goes p) (goes_step (sign s.Dot b) (goes_step (lexeme (t.Name (codes "call")) c) (arguments_goes a))))
  spine_goes (sp_name {x = x} {b = b} i) = closed (leaf (lexeme (t.Name x) b) refl (goes_step (lexeme (t.Name x) b) goes_end))
  spine_goes (sp_number {n = m} {b = b} i) = closed (leaf (lexeme (t.Number m) b) refl (goes_step (lexeme (t.Number m) b) goes_end))
  spine_goes (sp_text {u = u} {b = b} i) = closed (leaf (lexeme (t.Text u) b) refl (goes_step (lexeme (t.Text u) b) goes_end))
  spine_goes (sp_true {b = b}) = closed (leaf (keyword k.True b) refl (goes_step (keyword k.True b) goes_end))
  spine_goes (sp_false {b = b}) = closed (leaf (keyword k.False b) refl (goes_step (keyword k.False b) goes_end))
  spine_goes (sp_null {b = b}) = closed (leaf (keyword k.Null b) refl (goes_step (keyword k.Null b) goes_end))
  spine_goes (sp_undefined {b = b}) = closed (leaf (lexeme (t.Name (codes "undefined")) b) refl (goes_step (lexeme (t.Name (codes "undefined")) b) goes_end))
  spine_goes (sp_this {b = b}) = closed (leaf (keyword k.This b) refl (goes_step (keyword k.This b) goes_end))
  spine_goes (sp_object b c p) = closed (leaf (sign s.OpenBrace b) refl (goes_step (sign s.OpenBrace b) (object_goes c p)))
  spine_goes (sp_function p) = function_goes p
  spine_goes (sp_paren b c p) = in_parens b c (spine_goes p)

  or_goes : {side : Side} {most : Option ℕ} {d : ℕ} {e f : Expr} {x : List Lexeme} (p : SpellsOr side most d e f x) → Row (operands e f) x (λ n. n ∷ or_places n p)
  or_goes (sp_first_or b p q) = left (sign s.Or b) refl (spine_goes p) (goes_step (sign s.Or b) (goes_expr (spine_goes q)))
  or_goes (sp_more_or b p q) = left (sign s.Or b) refl (closed (or_goes p)) (goes_step (sign s.Or b) (goes_expr (spine_goes q)))

  coalesce_goes : {side : Side} {most : Option ℕ} {d : ℕ} {e f : Expr} {x : List Lexeme} (p : SpellsCoalesce side most d e f x) → Row (operands e f) x (λ n. n ∷ coalesce_places n p)
  coalesce_goes (sp_first_coalesce b p q) = left (sign s.Coalesce b) refl (spine_goes p) (goes_step (sign s.Coalesce b) (goes_expr (spine_goes q)))
  coalesce_goes (sp_more_coalesce b p q) = left (sign s.Coalesce b) refl (closed (coalesce_goes p)) (goes_step (sign s.Coalesce b) (goes_expr (spine_goes q)))

  key_goes : {side : Side} {most : Option ℕ} {d : ℕ} {key : Key} {x : List Lexeme} (p : SpellsKey side most d key x) → Goes (member_key key) x (λ n. key_places n p)
  key_goes (sp_dot {w = w} {b = b} e h i) = goes_step (sign s.Dot b) (goes_mark (goes_step w goes_end))
  key_goes (sp_index b c p) = goes_step (sign s.OpenBracket b) (goes_last (sign s.CloseBracket c) (goes_expr (spine_goes p)))

  arguments_goes : {side : Side} {most : Option ℕ} {d : ℕ} {es : Exprs} {x : List Lexeme} (p : SpellsArguments side most d es x) → Goes (arguments es) x (λ n. arguments_places n p)
  arguments_goes (sp_no_arguments {b = b} {c = c}) = goes_step (sign s.OpenParen b) (goes_no_comma (sign s.CloseParen c) refl goes_end)
  arguments_goes (sp_arguments b c p i) = goes_step (sign s.OpenParen b) (goes_no_comma (sign s.CloseParen c) refl (list_goes p))
  arguments_goes (sp_arguments_comma b c f p i) = goes_step (sign s.OpenParen b) (goes_comma c (sign s.CloseParen f) (list_goes p))

  list_goes : {side : Side} {most : Option ℕ} {d : ℕ} {es : Exprs} {x : List Lexeme} (p : SpellsList side most d es x) → Goes (exprs es) x (λ n. list_places n p)
  list_goes (sp_one p) = goes_expr (spine_goes p)
  list_goes (sp_more {e = e} b p q) = goes_by (exprs_last p e) (goes_before (list_goes p) (goes_step (sign s.Comma b) (goes_expr (spine_goes q))))

  -- OBJECTS AND FUNCTIONS
  prop_key_goes : {side : Side} {most : Option ℕ} {d : ℕ} {key : PropKey} {x : List Lexeme} (p : SpellsPropKey side most d key x) → Goes (prop_key key) x (λ n. prop_key_places n p)
  prop_key_goes (sp_fixed {w = w} h e) = goes_mark (goes_step w goes_end)
  prop_key_goes (sp_computed b c p) = goes_step (sign s.OpenBracket b) (goes_last (sign s.CloseBracket c) (goes_expr (spine_goes p)))

  property_goes : {side : Side} {most : Option ℕ} {d : ℕ} {key : PropKey} {e : Expr} {x : List Lexeme} (p : SpellsProperty side most d key e x) → Stays (whole key e) x (λ n. property_places n p)
  property_goes (sp_key_value {e = e} b h p) = stays (colon_goes e b h (prop_key_goes h) (goes_expr (spine_goes p)))
  property_goes (sp_name_alone {x = x} {u = u} {b = b} h i) = alone u (Named x) (lexeme (t.Name x) b) (λ ts. refl)
  property_goes (sp_undefined_alone {b = b}) = alone (codes "undefined") Undefined (lexeme (t.Name (codes "undefined")) b) (λ ts. refl)
  property_goes (sp_method {ss = ss} b c h key f a p) = method_goes ss b c h key a (prop_key_goes key) (stmts_goes p)

  some_goes : {side : Side} {most : Option ℕ} {d : ℕ} {ps : Properties} {x : List Lexeme} (p : SpellsSome side most d ps x) → Stays (properties ps) x (λ n. some_places n p)
  some_goes (sp_one_property p) = property_goes p
  some_goes (sp_more_properties {key = key} {e = e} b p q) = stays_by (properties_last p key e) (stays_before b (some_goes p) (property_goes q))

  object_goes : {side : Side} {most : Option ℕ} {d : ℕ} {ps : Properties} {x : List Lexeme} (c : Bool) (p : SpellsProperties side most d ps x) → Goes (λ w. step (comma (properties ps w))) (x ++ sign s.CloseBrace c ∷ []) (λ n. properties_places n p)
  object_goes c sp_no_properties = goes_no_comma (sign s.CloseBrace c) refl goes_end
  object_goes c (sp_properties p) = stays_close c (some_goes p)
  object_goes c (sp_properties_comma b p) = stays_comma b c (some_goes p)

  function_goes : {side : Side} {most : Option ℕ} {d : ℕ} {f : Code} {x : List Lexeme} (p : SpellsFunction side most d f x) → Spine (spine (Function f)) x (λ n. n ∷ function_places n p)
  function_goes (sp_code {name = name} {kind = kind} {xs = xs} {ss = ss} {x = x} {y = y} {z = z} b c h a p) =
      let r : List Lexeme = sign s.OpenBrace b ∷ (z ++ sign s.CloseBrace c ∷ []) in
      spine_by (λ w. chosen (is_arrow kind) false (arrow_body ss (step (arrow_params xs (pass (head_words kind) (own_arrow kind w))))) (braces ss (params xs (own_name name (pass (head_words kind) (own w))))) (no_arrow h))
      (closed (row_as (head_row (y ++ r) h (goes_before (head_goes h) (goes_before (params_go a) (goes_step (sign s.OpenBrace b) (goes_last (sign s.CloseBrace c) (stmts_goes p)))))) (sym (append_assoc x y r))
      (λ n. ap (λ w. n ∷ w) (sym (append_assoc (head_places n h) (params_places (n + length x) a) (stmts_places (suc (n + length x + length y)) p))))))

  code_goes : {side : Side} {most : Option ℕ} {d : ℕ} {name : Option (List ℕ)} {kind : FunctionKind} {xs : List (List ℕ)} {ss : Stmts} {x : List Lexeme} (p : SpellsFunction side most d (code name kind xs ss) x) → Goes (λ w. braces ss (params xs (own_name name (pass (head_words kind) w)))) x (λ n. function_places n p)
  code_goes (sp_code {x = x} {y = y} {z = z} b c h a p) =
      let r : List Lexeme = sign s.OpenBrace b ∷ (z ++ sign s.CloseBrace c ∷ []) in
      goes_as (goes_before (head_goes h) (goes_before (params_go a) (goes_step (sign s.OpenBrace b) (goes_last (sign s.CloseBrace c) (stmts_goes p))))) (sym (append_assoc x y r))
      (λ n. sym (append_assoc (head_places n h) (params_places (n + length x) a) (stmts_places (suc (n + length x + length y)) p)))

  -- ITEMS
  let_goes : {side : Side} {most : Option ℕ} {d : ℕ} {x : List ℕ} {v : MaybeExpr} {y : List Lexeme} (p : SpellsLet side most d x v y) → Goes (λ w. let_value v (step (mark w))) y (λ n. let_places n p)
  let_goes (sp_let_alone {x = x} {b = b} i) = goes_mark (goes_step (lexeme (t.Name x) b) goes_end)
  let_goes (sp_let_value {x = x} {b = b} {c = c} i p) = goes_mark (goes_step (lexeme (t.Name x) b) (goes_step (sign s.Assign c) (goes_expr (spine_goes p))))

  lets_goes : {side : Side} {most : Option ℕ} {d : ℕ} {is : LetItems} {y : List Lexeme} (p : SpellsLets side most d is y) → Goes (lets is) y (λ n. lets_places n p)
  lets_goes (sp_one_let p) = let_goes p
  lets_goes (sp_more_lets {x = x} {v = v} b p q) = goes_by (lets_last p x v) (goes_before (lets_goes p) (goes_step (sign s.Comma b) (let_goes q)))

  consts_goes : {side : Side} {most : Option ℕ} {d : ℕ} {is : ConstItems} {y : List Lexeme} (p : SpellsConsts side most d is y) → Goes (consts is) y (λ n. consts_places n p)
  consts_goes (sp_one_const {x = x} {b = b} {c = c} i p) = goes_mark (goes_step (lexeme (t.Name x) b) (goes_step (sign s.Assign c) (goes_expr (spine_goes p))))
  consts_goes (sp_more_consts {x = x} {e = e} b c f p i q) =
      goes_by (consts_last p x e) (goes_before (consts_goes p) (goes_step (sign s.Comma b) (goes_mark (goes_step (lexeme (t.Name x) c) (goes_step (sign s.Assign f) (goes_expr (spine_goes q)))))))

  maybe_goes : {side : Side} {most : Option ℕ} {d : ℕ} {e : MaybeExpr} {x : List Lexeme} (p : SpellsMaybe side most d e x) → Goes (maybe e) x (λ n. maybe_places n p)
  maybe_goes sp_absent = goes_end
  maybe_goes (sp_present p) = goes_expr (spine_goes p)

  init_goes : {side : Side} {most : Option ℕ} {d : ℕ} {i : Init} {x : List Lexeme} (p : SpellsInit side most d i x) → Goes (init i) x (λ n. init_places n p)
  init_goes sp_init_nothing = goes_end
  init_goes (sp_init_let {b = b} p) = goes_step (keyword k.Let b) (lets_goes p)
  init_goes (sp_init_const {b = b} p) = goes_step (keyword k.Const b) (consts_goes p)
  init_goes (sp_init_value p) = goes_expr (spine_goes p)

  -- STATEMENTS
  pub stmt_goes : {side : Side} {most : Option ℕ} {d : ℕ} {st : Stmt} {x : List Lexeme} (p : SpellsStmt side most d st x) → Goes (stmt st) x (λ n. stmt_places n p)
  stmt_goes (sp_let b c p) = goes_mark (goes_step (keyword k.Let b) (goes_last (sign s.Semicolon c) (lets_goes p)))
  stmt_goes (sp_const b c p) = goes_mark (goes_step (keyword k.Const b) (goes_last (sign s.Semicolon c) (consts_goes p)))
  stmt_goes (sp_fun p) = goes_mark (code_goes p)
  stmt_goes (sp_block p) = goes_mark (block_goes p)
  stmt_goes (sp_if {x = x} b c f p q) =
      goes_as (goes_mark (goes_step (keyword k.If b) (goes_step (sign s.OpenParen c) (goes_before (goes_expr (spine_goes p)) (goes_step (sign s.CloseParen f) (body_goes_on q)))))) refl
      (λ n. let e : suc (suc (suc n) + length x) ≡ suc (suc (suc (n + length x))) = omega arith in cc)
  stmt_goes (sp_if_else {x = x} {y = y} b c f g p q o r) =
      goes_as (goes_mark (goes_step (keyword k.If b) (goes_step (sign s.OpenParen c) (goes_before (goes_expr (spine_goes p)) (goes_step (sign s.CloseParen f) (goes_before (body_goes_on q) (goes_step (keyword k.Else g) (body_goes_on r)))))))) refl
      (λ n. let e : suc (suc (suc n) + length x) ≡ suc (suc (suc (n + length x))) = omega arith in
      let h : suc (suc (suc (suc n) + length x) + length y) ≡ suc (suc (suc (suc (n + length x + length y)))) = omega arith in
      let a = append_assoc (expr_places (suc (suc n)) p) (body_places (suc (suc (suc (n + length x)))) q) (body_places (suc (suc (suc (suc (n + length x + length y))))) r) in cc)
  stmt_goes (sp_while {x = x} b c f p q) =
      goes_as (goes_mark (goes_step (keyword k.While b) (goes_step (sign s.OpenParen c) (goes_before (goes_expr (spine_goes p)) (goes_step (sign s.CloseParen f) (body_goes_on q)))))) refl
      (λ n. let e : suc (suc (suc n) + length x) ≡ suc (suc (suc (n + length x))) = omega arith in cc)
  stmt_goes (sp_do_while {x = x} {y = y} b c f g h p q) =
      goes_as (goes_mark (goes_step (keyword k.Do b) (goes_before (body_goes_on p) (goes_step (keyword k.While c) (goes_step (sign s.OpenParen f) (goes_last_two (sign s.CloseParen g) (sign s.Semicolon h) (goes_expr (spine_goes q)))))))) refl
      (λ n. let e : suc (suc (suc n + length x)) ≡ suc (suc (suc (n + length x))) = omega arith in cc)
  stmt_goes (sp_for {w = w} {x = x} {y = y} b c f g h i t u p) =
      goes_as (goes_mark (goes_step (keyword k.For b) (goes_step (sign s.OpenParen c) (goes_before (init_goes i) (goes_step (sign s.Semicolon f) (goes_before (maybe_goes t) (goes_step (sign s.Semicolon g) (goes_before (maybe_goes u) (goes_step (sign s.CloseParen h) (body_goes_on p)))))))))) refl
      (λ n. let e : suc (suc (suc n) + length w) ≡ suc (suc (suc (n + length w))) = omega arith in
      let j : suc (suc (suc (suc n) + length w) + length x) ≡ suc (suc (suc (suc (n + length w + length x)))) = omega arith in
      let m : suc (suc (suc (suc (suc n) + length w) + length x) + length y) ≡ suc (suc (suc (suc (suc (n + length w + length x + length y))))) = omega arith in
      let A = init_places (suc (suc n)) i in
      let B = maybe_places (suc (suc (suc (n + length w)))) t in
      let C = maybe_places (suc (suc (suc (suc (n + length w + length x))))) u in
      let D = body_places (suc (suc (suc (suc (suc (n + length w + length x + length y)))))) p in
      let a1 = append_assoc A B C in let a2 = append_assoc (A ++ B) C D in let a3 = append_assoc A B (C ++ D) in cc)
  stmt_goes (sp_for_of_let {x = x} {y = y} b c f g h i e j p q) =
      goes_as (goes_mark (goes_step (keyword k.For b) (goes_step (sign s.OpenParen c) (goes_step (keyword k.Let f) (goes_mark (goes_step (lexeme (t.Name x) g) (goes_step (lexeme (t.Name (codes "of")) h) (goes_before (goes_expr (spine_goes p)) (goes_step (sign s.CloseParen i) (body_goes_on q)))))))))) refl
      (λ n. let a : suc (suc (suc n)) ≡ n + 3 = omega arith in let m : suc (suc (suc (suc (suc n)))) ≡ n + 5 = omega arith in let o : suc (suc (suc (suc (suc (suc n)))) + length y) ≡ n + 6 + length y = omega arith in cc)
  stmt_goes (sp_for_of_const {x = x} {y = y} b c f g h i e j p q) =
      goes_as (goes_mark (goes_step (keyword k.For b) (goes_step (sign s.OpenParen c) (goes_step (keyword k.Const f) (goes_mark (goes_step (lexeme (t.Name x) g) (goes_step (lexeme (t.Name (codes "of")) h) (goes_before (goes_expr (spine_goes p)) (goes_step (sign s.CloseParen i) (body_goes_on q)))))))))) refl
      (λ n. let a : suc (suc (suc n)) ≡ n + 3 = omega arith in let m : suc (suc (suc (suc (suc n)))) ≡ n + 5 = omega arith in let o : suc (suc (suc (suc (suc (suc n)))) + length y) ≡ n + 6 + length y = omega arith in cc)
  stmt_goes (sp_break {b = b} {c = c}) = goes_mark (goes_step (keyword k.Break b) (goes_step (sign s.Semicolon c) goes_end))
  stmt_goes (sp_continue {b = b} {c = c}) = goes_mark (goes_step (keyword k.Continue b) (goes_step (sign s.Semicolon c) goes_end))
  stmt_goes (sp_return_nothing {b = b} {c = c}) = goes_mark (goes_step (keyword k.Return b) (goes_step (sign s.Semicolon c) goes_end))
  stmt_goes (sp_return b c p i) = goes_mark (goes_step (keyword k.Return b) (goes_last (sign s.Semicolon c) (goes_expr (spine_goes p))))
  stmt_goes (sp_throw b c p i) = goes_mark (goes_step (keyword k.Throw b) (goes_last (sign s.Semicolon c) (goes_expr (spine_goes p))))
  stmt_goes (sp_try_catch {x = x} b p q) =
      goes_as (goes_mark (goes_step (keyword k.Try b) (goes_before (block_goes p) (catch_goes q)))) refl
      (λ n. let e : suc n + length x ≡ suc (n + length x) = omega arith in cc)
  stmt_goes (sp_try_finally {x = x} b f p q) =
      goes_as (goes_mark (goes_step (keyword k.Try b) (goes_before (block_goes p) (goes_step (keyword k.Finally f) (block_goes q))))) refl
      (λ n. let e : suc (suc n + length x) ≡ suc (suc (n + length x)) = omega arith in cc)
  stmt_goes (sp_try_both {x = x} {y = y} {z = z} b f p q r) =
      goes_as (goes_mark (goes_step (keyword k.Try b) (goes_before (block_goes p) (goes_before (catch_goes q) (goes_step (keyword k.Finally f) (block_goes r)))))) (ap (λ w. keyword k.Try b ∷ w) (sym (append_assoc x y (keyword k.Finally f ∷ z))))
      (λ n. let e : suc n + length x ≡ suc (n + length x) = omega arith in
      let h : suc ((suc n + length x) + length y) ≡ suc (suc (n + length x + length y)) = omega arith in
      let a = append_assoc (block_places (suc n) p) (catch_places (suc (n + length x)) q) (block_places (suc (suc (n + length x + length y))) r) in cc)
  stmt_goes (sp_value b p i) = goes_mark (goes_last (sign s.Semicolon b) (goes_expr (spine_goes p)))
  stmt_goes (sp_empty {b = b}) = goes_mark (goes_step (sign s.Semicolon b) goes_end)
  stmt_goes (sp_switch {x = x} {y = y} b c f g h e p q) =
      goes_as (goes_mark (goes_step (keyword k.Switch b) (goes_step (sign s.OpenParen c) (goes_before (goes_expr (spine_goes p)) (goes_step (sign s.CloseParen f) (goes_step (sign s.OpenBrace g) (goes_last (sign s.CloseBrace h) (clauses_goes q)))))))) refl
      (λ n. let m : suc (suc (suc (suc n) + length x)) ≡ suc (suc (suc (suc (n + length x)))) = omega arith in cc)

  block_goes : {side : Side} {most : Option ℕ} {d : ℕ} {ss : Stmts} {x : List Lexeme} (p : SpellsBlock side most d ss x) → Goes (braces ss) x (λ n. block_places n p)
  block_goes (sp_braces b c p) = goes_step (sign s.OpenBrace b) (goes_last (sign s.CloseBrace c) (stmts_goes p))

  body_goes_on : {side : Side} {most : Option ℕ} {d : ℕ} {st : Stmt} {x : List Lexeme} (p : SpellsBody side most d st x) → Goes (stmt st) x (λ n. body_places n p)
  body_goes_on (sp_body p i) = stmt_goes p

  catch_goes : {side : Side} {most : Option ℕ} {d : ℕ} {c : Catch} {x : List Lexeme} (p : SpellsCatch side most d c x) → Goes (caught c) x (λ n. catch_places n p)
  catch_goes (sp_catch {b = b} p) = goes_step (keyword k.Catch b) (block_goes p)
  catch_goes (sp_catch_name {x = x} {b = b} {c = c} {f = f} {g = g} i p) =
      goes_as (goes_step (keyword k.Catch b) (goes_step (sign s.OpenParen c) (goes_mark (goes_step (lexeme (t.Name x) f) (goes_step (sign s.CloseParen g) (block_goes p)))))) refl
      (λ n. let e : suc (suc (suc (suc n))) ≡ n + 4 = omega arith in cc)

  clauses_goes : {side : Side} {most : Option ℕ} {d : ℕ} {cs : Clauses} {x : List Lexeme} (p : SpellsClauses side most d cs x) → Goes (clauses cs) x (λ n. clauses_places n p)
  clauses_goes sp_no_clauses = goes_end
  clauses_goes (sp_default {b = b} {c = c} p) = goes_step (keyword k.Default b) (goes_step (sign s.Colon c) (stmts_goes p))
  clauses_goes (sp_case {n = m} {x = x} b c f i p q) =
      goes_as (goes_step (keyword k.Case b) (goes_step (lexeme (t.Number m) c) (goes_step (sign s.Colon f) (goes_before (stmts_goes p) (clauses_goes q))))) refl
      (λ n. let e : suc (suc (suc n)) ≡ n + 3 = omega arith in cc)

  pub stmts_goes : {side : Side} {most : Option ℕ} {d : ℕ} {ss : Stmts} {x : List Lexeme} (p : SpellsStmts side most d ss x) → Goes (stmts ss) x (λ n. stmts_places n p)
  stmts_goes sp_end = goes_end
  stmts_goes (sp_next p q) = goes_before (stmt_goes p) (stmts_goes q)

-- the walk over a program gives the places of its nodes
pub places_are : {side : Side} {most : Option ℕ} {d : ℕ} {ss : Stmts} (x : List Lexeme) (p : SpellsStmts side most d ss x) → places_of ss x ≡ stmts_places 0 p
places_are {ss = ss} x p = ap (λ z. places (stmts ss (walk 0 z [] []))) (sym (append-nil x)) ∙ ap places ((stmts_goes p).passes 0 [] [] [])
