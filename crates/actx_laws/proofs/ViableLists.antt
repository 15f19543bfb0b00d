-- Lists that grow by one entry, and lists that end.
use Rattle.std.proofs.Common.{◌≡◌, ℕ, suc, max, ◌+◌, ◌≤◌, List, [], ◌∷◌, ◌++◌, length, Bool, true, Option, Some, refl, sym, ap, subst, arith, append_assoc}
use Rattle.std.proofs.lemmas.List.{append-nil}
use Rattle.actx_grammar.specs.declared.side.Side.{Side}
use Rattle.actx_grammar.specs.declared.token.Keyword.TheVariants as k
use Rattle.actx_grammar.specs.declared.token.Sign.TheVariants as g
use Rattle.actx_grammar.specs.declared.token.TokenKind.TheVariants as t
use Rattle.actx_grammar.specs.Grammar.{Allows, count, with_last, with_let, with_const, with_property, IsBody, StartsStatement, SpellsNames, sp_one_name, sp_more_names, SpellsParams, sp_no_params, sp_params_comma, Spells, SpellsArguments, sp_no_arguments, sp_arguments_comma, SpellsList, sp_one, sp_more, SpellsProperty, SpellsProperties, sp_no_properties, sp_properties_comma, SpellsSome, sp_one_property, sp_more_properties, SpellsLet, SpellsLets, sp_one_let, sp_more_lets, SpellsConsts, sp_one_const, sp_more_consts, SpellsClauses, sp_no_clauses, sp_case, SpellsBody, sp_body, SpellsStmt, SpellsStmts, sp_end, sp_next}
use Rattle.actx_grammar.specs.Lexemes.{Lexeme, sign, keyword, lexeme, SameLine}
use Rattle.actx_grammar.specs.Names.{IsBinding}
use Rattle.actx_grammar.specs.Parser.{with_stmt, with_clause}
use Rattle.actx_grammar.specs.ParserState.{Limits, fits, Frame, in_value, in_return, in_throw, in_list, frame_levels, levels}
use Rattle.actx_grammar.specs.Tree.{Expr, Exprs, Properties, PropKey, LetItems, ConstItems, MaybeExpr, Stmt, Stmts, end, next, no_clauses, Clauses, clause}
use Rattle.actx_grammar.specs.Words.{greatest_number}
use Rattle.actx_laws.proofs.SpellDeeper.{deeper, deeper_list, deeper_property, deeper_some, deeper_let, deeper_lets, deeper_consts, deeper_stmt, deeper_stmts}
use Rattle.actx_laws.proofs.ViableTests.{fits_max}
use Rattle.actx_laws.proofs.ViableParts.{Deep, Starts, AsBody, InList, Begun, none_begun, all_begun, BegunProperties, none_begun_properties, all_begun_properties, BegunLets, none_begun_lets, all_begun_lets, BegunConsts, none_begun_consts, all_begun_consts, BegunNames, none_begun_names, all_begun_names, Cases, no_cases, one_case}

-- DEPTHS
pub below : {lim : Limits} {m r : ℕ} {f : Frame} {s : List Frame} → Deep lim m (f ∷ s) r → frame_levels f ≡ 1 → Deep lim (suc m) s r
below {m = m} {r} {f} {s} h q =
    let i : m + (frame_levels f + levels s) ≤ r = h.reach in
    record { reach = omega (arith, i, q); within = h.within }

pub deep_max : {lim : Limits} {n m j r : ℕ} {f : Frame} {s : List Frame} → Deep lim (suc n) s j → Deep lim m (f ∷ s) r → frame_levels f ≡ 1 → Deep lim (suc (max n m)) s (max j r)
deep_max {lim} {m = m} {j = j} {r = r} {f = f} {s = s} d h q =
    let i : m + (frame_levels f + levels s) ≤ r = h.reach in
    record { reach = omega (arith, d.reach, i, q); within = fits_max lim j r d.within h.within }

pub raised : {lim : Limits} {n r : ℕ} {s : List Frame} (j : ℕ) → Deep lim n s r → r ≤ j → fits lim j ≡ true → Deep lim n s j
raised j d i w = record { reach = omega (arith, d.reach); within = w }

-- BODIES
pub as_body : (s : List Frame) (st : Stmt) → IsBody st → AsBody s st
as_body (in_list owner ss r ∷ s) st h = tt
as_body [] st h = h
as_body (_ ∷ s) st h = h

pub any_body : (s : List Frame) (st : Stmt) → InList s → AsBody s st
any_body (in_list owner ss r ∷ s) st h = tt
any_body [] st h = absurd h
any_body (_ ∷ s) st h = absurd h

pub deeper_body : {side : Side} {most : Option ℕ} {d n : ℕ} {st : Stmt} {x : List Lexeme} → SpellsBody side most d st x → d ≤ n → SpellsBody side most n st x
deeper_body (sp_body p h) i = sp_body (deeper_stmt p i) h

-- FIRST TOKENS
pub starts_statement : (s : List Frame) (x : List Lexeme) → Starts (in_value ∷ s) x → StartsStatement x
starts_statement s x h = subst (λ z. StartsStatement z) (append-nil x) (h [])

pub starts_return : (s : List Frame) (x : List Lexeme) → Starts (in_return ∷ s) x → SameLine x
starts_return s x h = subst (λ z. SameLine z) (append-nil x) (h [])

pub starts_throw : (s : List Frame) (x : List Lexeme) → Starts (in_throw ∷ s) x → SameLine x
starts_throw s x h = subst (λ z. SameLine z) (append-nil x) (h [])

-- ONE MORE
pub list_more : {side : Side} {most : Option ℕ} {n m : ℕ} {es : Exprs} {e : Expr} {y x : List Lexeme} (d : ℕ) → Begun side most n es y → Spells side most 1 m e x → n ≤ d → m ≤ d → SpellsList side most d (with_last es e) (y ++ x)
list_more d none_begun p i j = sp_one (deeper p j)
list_more {side} {most} {es = es} {e = e} {x = x} d (all_begun {x = z} b ps) p i j = subst (λ w. SpellsList side most d (with_last es e) w) (simp append_assoc) (sp_more b (deeper_list ps i) (deeper p j))

pub properties_more : {side : Side} {most : Option ℕ} {n m : ℕ} {ps : Properties} {key : PropKey} {e : Expr} {y x : List Lexeme} (d : ℕ) → BegunProperties side most n ps y → SpellsProperty side most m key e x → n ≤ d → m ≤ d → SpellsSome side most d (with_property ps key e) (y ++ x)
properties_more d none_begun_properties p i j = sp_one_property (deeper_property p j)
properties_more {side} {most} {ps = ps} {key = key} {e = e} {x = x} d (all_begun_properties {x = z} b qs) p i j = subst (λ w. SpellsSome side most d (with_property ps key e) w) (simp append_assoc) (sp_more_properties b (deeper_some qs i) (deeper_property p j))

pub lets_more : {side : Side} {most : Option ℕ} {n m : ℕ} {is : LetItems} {a : List ℕ} {v : MaybeExpr} {y x : List Lexeme} (d : ℕ) → BegunLets side most n is y → SpellsLet side most m a v x → n ≤ d → m ≤ d → SpellsLets side most d (with_let is a v) (y ++ x)
lets_more d none_begun_lets p i j = sp_one_let (deeper_let p j)
lets_more {side} {most} {is = is} {a = a} {v = v} {x = x} d (all_begun_lets {x = z} b ps) p i j = subst (λ w. SpellsLets side most d (with_let is a v) w) (simp append_assoc) (sp_more_lets b (deeper_lets ps i) (deeper_let p j))

pub consts_more : {side : Side} {most : Option ℕ} {n m : ℕ} {is : ConstItems} {a : List ℕ} {e : Expr} {y x : List Lexeme} (d : ℕ) (b c : Bool) → BegunConsts side most n is y → IsBinding side a → Spells side most 1 m e x → n ≤ d → m ≤ d → SpellsConsts side most d (with_const is a e) (y ++ lexeme (t.Name a) b ∷ sign g.Assign c ∷ x)
consts_more d b c none_begun_consts h p i j = sp_one_const h (deeper p j)
consts_more {side} {most} {is = is} {a = a} {e = e} {x = x} d b c (all_begun_consts {x = z} f ps) h p i j = subst (λ w. SpellsConsts side most d (with_const is a e) w) (simp append_assoc) (sp_more_consts f b c (deeper_consts ps i) h (deeper p j))

pub record NamesMore (side : Side) (most : Option ℕ) (xs : List (List ℕ)) (y : List Lexeme) : Type 0 where
  pub spells : SpellsNames side xs y
  pub allowed : Allows most (length xs)

one_longer : (xs : List (List ℕ)) (x : List ℕ) → length (xs ++ x ∷ []) ≡ suc (length xs)
one_longer [] x = refl
one_longer (y ∷ xs) x = ap suc (one_longer xs x)

pub names_more : {side : Side} {most : Option ℕ} {xs : List (List ℕ)} {y : List Lexeme} (a : List ℕ) (b : Bool) → BegunNames side most xs y → IsBinding side a → Allows most (suc (length xs)) → NamesMore side most (xs ++ a ∷ []) (y ++ lexeme (t.Name a) b ∷ [])
names_more a b none_begun_names h w = record { spells = sp_one_name h; allowed = w }
names_more {side} {most} {xs = xs} a b (all_begun_names {x = z} f ps c) h w =
    record {
      spells = subst (λ u. SpellsNames side (xs ++ a ∷ []) u) (simp append_assoc) (sp_more_names f b ps h);
      allowed = subst (Allows most) (sym (one_longer xs a)) w;
    }

-- NO MORE
pub arguments_done : {side : Side} {most : Option ℕ} {n : ℕ} {es : Exprs} {y : List Lexeme} (b c : Bool) → Begun side most n es y → Allows most (count es) → SpellsArguments side most n es (sign g.OpenParen b ∷ (y ++ sign g.CloseParen c ∷ []))
arguments_done b c none_begun w = sp_no_arguments
arguments_done {side} {most} {n} {es} b c (all_begun {x = z} f ps) w = subst (λ u. SpellsArguments side most n es u) (simp append_assoc) (sp_arguments_comma b f c ps w)

pub params_done : {side : Side} {most : Option ℕ} {xs : List (List ℕ)} {y : List Lexeme} (b c : Bool) → BegunNames side most xs y → SpellsParams side most xs (sign g.OpenParen b ∷ (y ++ sign g.CloseParen c ∷ []))
params_done b c none_begun_names = sp_no_params
params_done {side} {most} {xs} b c (all_begun_names {x = z} f ps w) = subst (λ u. SpellsParams side most xs u) (simp append_assoc) (sp_params_comma b f c ps w)

pub properties_done : {side : Side} {most : Option ℕ} {n : ℕ} {ps : Properties} {y : List Lexeme} → BegunProperties side most n ps y → SpellsProperties side most n ps y
properties_done none_begun_properties = sp_no_properties
properties_done (all_begun_properties b ps) = sp_properties_comma b ps

-- STATEMENTS AND CLAUSES
stmts_last : {side : Side} {most : Option ℕ} {d : ℕ} {ss : Stmts} {x y : List Lexeme} {st : Stmt} → SpellsStmts side most d ss x → SpellsStmt side most d st y → SpellsStmts side most d (with_stmt ss st) (x ++ y)
stmts_last {side} {most} {d} {y = y} {st = st} sp_end h = subst (λ z. SpellsStmts side most d (next st end) z) (append-nil y) (sp_next h sp_end)
stmts_last {side} {most} {d} {y = z} {st = st} (sp_next {st = dt} {ss = ss} {x = x} {y = y} p ps) h = subst (λ u. SpellsStmts side most d (next dt (with_stmt ss st)) u) (sym (append_assoc x y z)) (sp_next p (stmts_last ps h))

pub stmts_more : {side : Side} {most : Option ℕ} {n m : ℕ} {ss : Stmts} {x y : List Lexeme} {st : Stmt} (d : ℕ) → SpellsStmts side most n ss x → SpellsStmt side most m st y → n ≤ d → m ≤ d → SpellsStmts side most d (with_stmt ss st) (x ++ y)
stmts_more d ps p i j = stmts_last (deeper_stmts ps i) (deeper_stmt p j)

pub cases_last : {side : Side} {most : Option ℕ} {n : ℕ} {cs : Clauses} {x y : List Lexeme} {number : Option ℕ} {ss : Stmts} (d : ℕ) → Cases side most n cs x → SpellsClauses side most d (clause number ss no_clauses) y → n ≤ d → SpellsClauses side most d (with_clause cs number ss) (x ++ y)
cases_last d no_cases h i = h
cases_last {side} {most} {y = z} {number = number} {ss = ss} d (one_case {m = m} {ss = rs} {cs = cs} {x = x} {y = y} b c f w p ps) h i = subst (λ u. SpellsClauses side most d (clause (Some m) rs (with_clause cs number ss)) (keyword k.Case b ∷ lexeme (t.Number m) c ∷ sign g.Colon f ∷ u)) (sym (append_assoc x y z)) (sp_case b c f w (deeper_stmts p i) (cases_last d ps h i))

pub cases_more : {side : Side} {most : Option ℕ} {n : ℕ} {cs : Clauses} {x y : List Lexeme} {number : ℕ} {ss : Stmts} (d : ℕ) (b c f : Bool) → Cases side most n cs x → number ≤ greatest_number → SpellsStmts side most d ss y → n ≤ d → Cases side most d (with_clause cs (Some number) ss) (x ++ keyword k.Case b ∷ lexeme (t.Number number) c ∷ sign g.Colon f ∷ y)
cases_more {side} {most} {y = y} {number = number} {ss = ss} d b c f no_cases w h i = subst (λ u. Cases side most d (clause (Some number) ss no_clauses) (keyword k.Case b ∷ lexeme (t.Number number) c ∷ sign g.Colon f ∷ u)) (append-nil y) (one_case b c f w h no_cases)
cases_more {side} {most} {y = z} {number = number} {ss = ss} d b c f (one_case {m = m} {ss = rs} {cs = cs} {x = x} {y = y} j l o v p ps) w h i = subst (λ u. Cases side most d (clause (Some m) rs (with_clause cs (Some number) ss)) (keyword k.Case j ∷ lexeme (t.Number m) l ∷ sign g.Colon o ∷ u)) (sym (append_assoc x y (keyword k.Case b ∷ lexeme (t.Number number) c ∷ sign g.Colon f ∷ z))) (one_case j l o v (deeper_stmts p i) (cases_more d b c f ps w h i))

pub cases_done : {side : Side} {most : Option ℕ} {n : ℕ} {cs : Clauses} {x : List Lexeme} → Cases side most n cs x → SpellsClauses side most n cs x
cases_done no_cases = sp_no_clauses
cases_done (one_case b c f w p ps) = sp_case b c f w p (cases_done ps)
