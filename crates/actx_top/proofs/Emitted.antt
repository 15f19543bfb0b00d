-- The emitted program is one of the plain side, and goes no deeper than the plain side may: the prelude, and behind it a
-- program whose trees are those of the source but for a variable's call, which is a level deeper.
use Rattle.std.proofs.Common.{◌≡◌, ◌≢◌, ℕ, suc, ◌≤◌, List, [], ◌∷◌, Bool, true, false, None, refl, sym, subst, arith, lit≤}
use Rattle.std.specs.Prelude.{max, nat_lt, All}
use Rattle.actx_grammar.specs.declared.side.Side.TheVariants.{Source, Plain}
use Rattle.actx_grammar.specs.Depth.{with_parens, depth, depth_list, depth_properties, depth_maybe, depth_consts, depth_stmt, depth_program}
use Rattle.actx_grammar.specs.Forms.{level_of}
use Rattle.actx_grammar.specs.Grammar.{IsSpelled, deepest}
use Rattle.actx_grammar.specs.Layout.{laid}
use Rattle.actx_grammar.specs.Lexemes.{Lexeme}
use Rattle.actx_grammar.specs.Names.{IsBinding}
use Rattle.actx_grammar.specs.Sides.{ExprOn, ExprsOn, PropertiesOn, ConstsOn, StmtOn, StmtsOn}
use Rattle.actx_grammar.specs.Spell.{Start, inner, statement, within, begins, wrapped, spell_program}
use Rattle.actx_grammar.specs.Tree.{Expr, Exprs, Properties, ConstItems, no_consts, Stmt, Stmts, end, next}
use Rattle.actx_grammar.specs.declared.operators.FunctionKind.TheVariants.{Arrow}
use Rattle.actx_laws.proofs.SideReads.{stmts_on}
use Rattle.actx_laws.proofs.SideSpells.{stmts_said}
use Rattle.actx_laws.proofs.SpellDeeper.{deeper_stmts}
use Rattle.actx_laws.proofs.SpellLaws.{shallowest}
use Rattle.actx_rules.specs.Prelude.{prelude}
use Rattle.actx_rules.specs.Low.{p_, program_renamed, followed_by, low}
use Rattle.actx_rules.specs.Related.{NamesAre, no_names, more_names, ExprIs, num_expr, text_expr, undefined_expr, named_expr, binary_expr, member_expr, call_expr, arrow_expr, log_expr, variable_expr, options_expr, ExprsAre, no_exprs, more_exprs, PropertiesAre, no_properties_are, more_properties, ItemsAre, no_items_are, more_items, StmtIs, const_stmt, value_stmt, return_stmt, return_nothing_stmt, StmtsAre, no_stmts, more_stmts}
use Rattle.actx_lex.specs.Lexemes.{lexemes}
use Rattle.actx_top.specs.Accepts.{Takes}
use Rattle.actx_rules.specs.Taken.{IsTaken}
use Rattle.actx_top.proofs.EmittedNames.{binding_renamed, reference_renamed, bindings_renamed}
use Rattle.actx_top.proofs.EmittedPrelude.{prelude_on, prelude_deep, variable_named}
use Rattle.actx_rules.proofs.Same.Image.{program_image}
use Rattle.std.proofs.lemmas.List.Elements.{All-nil, All-cons, All-head, All-tail}

-- THE SIDE
names_on : {xs ys : List (List ℕ)} → NamesAre xs ys → All (IsBinding Source) xs → All (IsBinding Plain) ys
names_on no_names h = All-nil (IsBinding Plain)
names_on (more_names x {xs = xs} {ys = ys} n) h = All-cons (IsBinding Plain) (p_ x) ys (binding_renamed x (All-head (IsBinding Source) x xs h)) (names_on n (All-tail (IsBinding Source) x xs h))

mutual
  expr_on : {e d : Expr} → ExprIs e d → ExprOn Source e → ExprOn Plain d
  expr_on (num_expr n) h = h
  expr_on (text_expr u l) h = h
  expr_on undefined_expr h = tt
  expr_on (named_expr x) h = reference_renamed x h
  expr_on (binary_expr op a b) h = (expr_on a h.0, expr_on b h.1)
  expr_on (member_expr key k e) h = (expr_on e h.0, (h.1.0, k))
  expr_on (call_expr l f es) h = (expr_on f h.0, exprs_on es h.1)
  expr_on (arrow_expr n m) h = (tt, names_on n h.1, list_on m h.2)
  expr_on (log_expr es) h = ((tt, tt), exprs_on es h.1)
  expr_on variable_expr h = (variable_named, tt)
  expr_on (options_expr ps) h = (variable_named, (properties_on ps h.1.0, tt))

  exprs_on : {es ds : Exprs} → ExprsAre es ds → ExprsOn Source es → ExprsOn Plain ds
  exprs_on no_exprs h = tt
  exprs_on (more_exprs e es) h = (expr_on e h.0, exprs_on es h.1)

  properties_on : {ps qs : Properties} → PropertiesAre ps qs → PropertiesOn Source ps → PropertiesOn Plain qs
  properties_on no_properties_are h = tt
  properties_on (more_properties key e ps) h = (h.0, expr_on e h.1, properties_on ps h.2)

  items_on : {is js : ConstItems} → ItemsAre is js → ConstsOn Source is → ConstsOn Plain js
  items_on no_items_are h = tt
  items_on (more_items x e is) h = (binding_renamed x h.0, expr_on e h.1, items_on is h.2)

  stmt_on : {st dt : Stmt} → StmtIs st dt → StmtOn Source st → StmtOn Plain dt
  stmt_on (const_stmt no_items_are) h = absurd (h.0 refl)
  stmt_on (const_stmt (more_items x e is)) h = (λ z. absurd (cc), items_on (more_items x e is) h.1)
  stmt_on (value_stmt e) h = expr_on e h
  stmt_on (return_stmt e) h = expr_on e h
  stmt_on return_nothing_stmt h = tt

  list_on : {ss ts : Stmts} → StmtsAre ss ts → StmtsOn Source ss → StmtsOn Plain ts
  list_on no_stmts h = tt
  list_on (more_stmts st ss) h = (stmt_on st h.0, list_on ss h.1)

-- THE DEPTH
wider : (b : Bool) (n m : ℕ) → n ≤ suc m → with_parens b n ≤ suc (with_parens b m)
wider true n m h = omega (arith, h)
wider false n m h = h

mutual
  expr_deep : {e d : Expr} → ExprIs e d → (st : Start) (l : ℕ) → depth st d l ≤ suc (depth st e l)
  expr_deep (num_expr n) st l = lit≤ tt
  expr_deep (text_expr u q) st l = lit≤ tt
  expr_deep undefined_expr st l = lit≤ tt
  expr_deep (named_expr x) st l = lit≤ tt
  expr_deep (binary_expr op a b) st l =
      let p = expr_deep a (within (nat_lt (level_of op) l) st) (level_of op) in
      let q = expr_deep b inner (suc (level_of op)) in
      wider (nat_lt (level_of op) l) _ _ (omega (arith, p, q))
  expr_deep (member_expr key k e) st l = let p = expr_deep e (within (nat_lt 11 l) st) 11 in wider (nat_lt 11 l) _ _ (omega (arith, p))
  expr_deep (call_expr few f es) st l =
      let p = expr_deep f (within (nat_lt 11 l) st) 11 in
      let q = exprs_deep es in
      wider (nat_lt 11 l) _ _ (omega (arith, p, q))
  expr_deep (arrow_expr n m) st l = let p = list_deep m in wider (wrapped Arrow st l) _ _ (omega (arith, p))
  expr_deep (log_expr es) st l = let p = exprs_deep es in wider (nat_lt 11 l) _ _ (omega (arith, p))
  expr_deep variable_expr st l = wider (nat_lt 11 l) _ _ (lit≤ tt)
  expr_deep (options_expr ps) st l = let p = properties_deep ps in wider (nat_lt 11 l) _ _ (omega (arith, p))

  exprs_deep : {es ds : Exprs} → ExprsAre es ds → depth_list ds ≤ suc (depth_list es)
  exprs_deep no_exprs = lit≤ tt
  exprs_deep (more_exprs e es) = let p = expr_deep e inner 1 in let q = exprs_deep es in omega (arith, p, q)

  properties_deep : {ps qs : Properties} → PropertiesAre ps qs → depth_properties qs ≤ suc (depth_properties ps)
  properties_deep no_properties_are = lit≤ tt
  properties_deep (more_properties key e ps) = let p = expr_deep e inner 1 in let q = properties_deep ps in omega (arith, p, q)

  items_deep : {is js : ConstItems} → ItemsAre is js → depth_consts js ≤ suc (depth_consts is)
  items_deep no_items_are = lit≤ tt
  items_deep (more_items x e is) = let p = expr_deep e inner 1 in let q = items_deep is in omega (arith, p, q)

  stmt_deep : {st dt : Stmt} → StmtIs st dt → depth_stmt dt ≤ suc (depth_stmt st)
  stmt_deep (const_stmt is) = let p = items_deep is in omega (arith, p)
  stmt_deep (value_stmt e) = let p = expr_deep e statement 1 in omega (arith, p)
  stmt_deep (return_stmt e) = let p = expr_deep e inner 1 in omega (arith, p)
  stmt_deep return_nothing_stmt = lit≤ tt

  list_deep : {ss ts : Stmts} → StmtsAre ss ts → depth_program ts ≤ suc (depth_program ss)
  list_deep no_stmts = lit≤ tt
  list_deep (more_stmts st ss) = let p = stmt_deep st in let q = list_deep ss in omega (arith, p, q)

-- THE EMITTED PROGRAM
followed_on : (ss ts : Stmts) → StmtsOn Plain ss → StmtsOn Plain ts → StmtsOn Plain (followed_by ss ts)
followed_on end ts h k = k
followed_on (next st ss) ts h k = (h.0, followed_on ss ts h.1 k)

followed_deep : (ss ts : Stmts) → depth_program (followed_by ss ts) ≤ max (depth_program ss) (depth_program ts)
followed_deep end ts = omega arith
followed_deep (next st ss) ts = let p = followed_deep ss ts in omega (arith, p)

-- what is taken of a source text is emitted as a plain program
pub low_on : (p : Stmts) (x : List Lexeme) → IsSpelled Source p x → IsTaken p → StmtsOn Plain (low p)
low_on p x h t = followed_on prelude (program_renamed p) prelude_on (list_on (program_image p t) (stmts_on h))

-- within the plain side's depth
pub low_deep : (p : Stmts) (x : List Lexeme) → IsSpelled Source p x → IsTaken p → depth_program (low p) ≤ deepest Plain
low_deep p x h t =
    let least = (shallowest Source _ 200 p x h).0 in
    let own = list_deep (program_image p t) in
    let all = followed_deep prelude (program_renamed p) in
    let first = prelude_deep in
    omega (arith, least, own, all, first)

-- and so its own tokens spell it
pub low_spelled : (p : Stmts) (x : List Lexeme) → IsSpelled Source p x → IsTaken p → IsSpelled Plain (low p) (laid (spell_program (low p)))
low_spelled p x h t = deeper_stmts (stmts_said Plain (low p) (low_on p x h t) false) (low_deep p x h t)

-- of what a text is, where its forms run
pub takes_on : (p q : Stmts) → ((text : List ℕ) × Takes text p) → q ≡ low p → StmtsOn Plain q
takes_on p q t e = let x = lexemes t.1.accepted.tokens in subst (StmtsOn Plain) (sym e) (low_on p x t.1.accepted.spelled t.1.taken)

pub takes_deep : (p q : Stmts) → ((text : List ℕ) × Takes text p) → q ≡ low p → depth_program q ≤ 32768
takes_deep p q t e = let x = lexemes t.1.accepted.tokens in subst (λ z. depth_program z ≤ 32768) (sym e) (low_deep p x t.1.accepted.spelled t.1.taken)
