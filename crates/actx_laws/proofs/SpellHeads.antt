-- Parameters, and what stands before a function's body.
use Rattle.std.proofs.Common.{◌≡◌, ℕ, suc, ◌≤◌, Bool, true, false, List, [], ◌∷◌, ◌++◌, length, Option, None, refl, ap, ◌∙◌, append_assoc, arith}
use Rattle.actx_grammar.specs.declared.operators.FunctionKind.{FunctionKind}
use Rattle.actx_grammar.specs.declared.operators.FunctionKind.TheVariants.{Normal, Arrow, Generator, Async, AsyncArrow}
use Rattle.actx_grammar.specs.declared.side.Side.{Side}
use Rattle.actx_grammar.specs.declared.side.Side.TheVariants.{Source}
use Rattle.actx_grammar.specs.declared.token.Keyword.TheVariants as k
use Rattle.actx_grammar.specs.declared.token.Sign.TheVariants as g
use Rattle.actx_grammar.specs.declared.token.TokenKind.{TokenKind}
use Rattle.actx_grammar.specs.declared.token.TokenKind.TheVariants as t
use Rattle.actx_grammar.specs.Layout.{laid_from}
use Rattle.actx_grammar.specs.Lexemes.{Lexeme, sign, keyword}
use Rattle.actx_grammar.specs.Names.{IsBinding}
use Rattle.actx_grammar.specs.Tree.{Stmts, Function, code}
use Rattle.actx_grammar.specs.Grammar.{Allows, SpellsNames, SpellsParams, SpellsArrowParams, SpellsHead, SpellsArrow, Spells, SpellsFunction, sp_one_name, sp_more_names, sp_no_params, sp_params, sp_params_comma, sp_bare_param, sp_listed_params, sp_normal, sp_normal_named, sp_generator, sp_generator_named, sp_async, sp_async_named, sp_arrow_head, sp_async_arrow_head, sp_arrow, sp_function, sp_code}
use Rattle.actx_grammar.specs.Spell.{Start, begins_statement, braced, spell_names, spell_params, own_name, spell_head, wrapped, spell_program}
use Rattle.actx_grammar.specs.Depth.{depth_program}
use Rattle.actx_laws.proofs.SpellLaid.{after, laid_append, after_append, same_line, laid_round, laid_braced, leveled, parted}
use Rattle.actx_laws.proofs.SpellSaid.{Exact, StmtsSaid}
use Rattle.actx_laws.proofs.SpellLasts.{no_name, names_last, has_names}

abbrev NamesSaid : Side → List (List ℕ) → Type 0
NamesSaid side xs = (b : Bool) → SpellsNames side xs (laid_from b (spell_names xs))

names_grow : {side : Side} (xs : List (List ℕ)) (x : List ℕ) → no_name xs ≡ false → NamesSaid side xs → IsBinding side x → NamesSaid side (xs ++ x ∷ [])
names_grow {side} xs x some p h b =
    rw (names_last xs x some)
    rw (laid_append b (spell_names xs) (t.Sign g.Comma ∷ t.Name x ∷ []))
    (sp_more_names (after b (spell_names xs)) false (p b) h)

pub names_again : {side : Side} {xs : List (List ℕ)} {y : List Lexeme} → SpellsNames side xs y → NamesSaid side xs
names_again (sp_one_name h) b = sp_one_name h
names_again (sp_more_names {xs = xs} {x = x} c f ps h) b = names_grow xs x (has_names ps) (names_again ps) h b

abbrev pub ParamsSaid : Side → Option ℕ → List (List ℕ) → Type 0
ParamsSaid side most xs = (b : Bool) → SpellsParams side most xs (laid_from b (spell_params xs))

params_said : {side : Side} {most : Option ℕ} (xs : List (List ℕ)) → NamesSaid side xs → Allows most (length xs) → ParamsSaid side most xs
params_said xs p a b = rw (laid_round b (spell_names xs)) (sp_params b (after false (spell_names xs)) (p false) a)

pub params_again : {side : Side} {most : Option ℕ} {xs : List (List ℕ)} {x : List Lexeme} → SpellsParams side most xs x → ParamsSaid side most xs
params_again sp_no_params b = sp_no_params
params_again (sp_params {xs = xs} c f n a) b = params_said xs (names_again n) a b
params_again (sp_params_comma {xs = xs} c f g n a) b = params_said xs (names_again n) a b

arrow_params : {side : Side} {most : Option ℕ} {xs : List (List ℕ)} {x : List Lexeme} → SpellsArrowParams side most xs x → ParamsSaid side most xs
arrow_params (sp_bare_param {x = x} h a) = params_said (x ∷ []) (λ b. sp_one_name h) a
arrow_params (sp_listed_params p) = params_again p

-- HEADS
abbrev head_words : FunctionKind → Option (List ℕ) → List TokenKind
head_words Normal x = t.Keyword k.Function ∷ own_name x
head_words Generator x = t.Keyword k.Function ∷ t.Sign g.Star ∷ own_name x
head_words Async x = t.Keyword k.Async ∷ t.Keyword k.Function ∷ own_name x
head_words _ x = []

head_split : {side : Side} {kind : FunctionKind} {name : Option (List ℕ)} {x : List Lexeme} → SpellsHead side kind name x → (xs : List (List ℕ)) → spell_head kind name xs ≡ head_words kind name ++ spell_params xs
head_split sp_normal xs = refl
head_split (sp_normal_named n) xs = refl
head_split (sp_generator s) xs = refl
head_split (sp_generator_named s n) xs = refl
head_split (sp_async s) xs = refl
head_split (sp_async_named s n) xs = refl

head_again : {side : Side} {kind : FunctionKind} {name : Option (List ℕ)} {x : List Lexeme} → SpellsHead side kind name x → (b : Bool) → SpellsHead side kind name (laid_from b (head_words kind name))
head_again sp_normal b = sp_normal
head_again (sp_normal_named n) b = sp_normal_named n
head_again (sp_generator s) b = sp_generator s
head_again (sp_generator_named s n) b = sp_generator_named s n
head_again (sp_async s) b = sp_async s
head_again (sp_async_named s n) b = sp_async_named s n

head_wrapped : {side : Side} {kind : FunctionKind} {name : Option (List ℕ)} {x : List Lexeme} → SpellsHead side kind name x → (st : Start) (m : ℕ) → wrapped kind st m ≡ begins_statement st
head_wrapped sp_normal st m = refl
head_wrapped (sp_normal_named n) st m = refl
head_wrapped (sp_generator s) st m = refl
head_wrapped (sp_generator_named s n) st m = refl
head_wrapped (sp_async s) st m = refl
head_wrapped (sp_async_named s n) st m = refl

-- FUNCTIONS
pub function_again : {side : Side} {most : Option ℕ} {kind : FunctionKind} {name : Option (List ℕ)} {x : List Lexeme} (xs : List (List ℕ)) (ss : Stmts) → SpellsHead side kind name x → ParamsSaid side most xs → StmtsSaid side most ss
    → (b : Bool) → SpellsFunction side most (depth_program ss) (code name kind xs ss) (laid_from b (spell_head kind name xs ++ braced (spell_program ss)))
function_again {kind = kind} {name = name} xs ss h ps p b =
    let w : List TokenKind = head_words kind name in
    rw (head_split h xs)
    rw (laid_append b (w ++ spell_params xs) (braced (spell_program ss)))
    rw (laid_append b w (spell_params xs))
    rw (laid_braced (after b (w ++ spell_params xs)) (spell_program ss))
    (sp_code (after b (w ++ spell_params xs)) (after true (spell_program ss)) (head_again h b) (ps (after b w)) (p true))

pub function_exact : {side : Side} {most : Option ℕ} {kind : FunctionKind} {name : Option (List ℕ)} {x : List Lexeme} (xs : List (List ℕ)) (ss : Stmts) → SpellsHead side kind name x → ParamsSaid side most xs → StmtsSaid side most ss
    → Exact side most (Function (code name kind xs ss))
function_exact {kind = kind} {name = name} xs ss h ps p = record {
  said = λ b st m. parted (spell_head kind name xs ++ braced (spell_program ss)) (suc (depth_program ss)) (wrapped kind st m) (λ c n. sp_function (function_again xs ss h ps p c)) b m;
  chained = tt;
}

-- ARROWS
params_end : (b : Bool) (xs : List (List ℕ)) → after b (spell_params xs) ≡ false
params_end b xs = after_append false (spell_names xs) (t.Sign g.CloseParen ∷ [])

arrow_laid : (b : Bool) (xs : List (List ℕ)) (ss : Stmts) → laid_from b ((spell_params xs ++ t.Sign g.Arrow ∷ []) ++ braced (spell_program ss)) ≡ laid_from b (spell_params xs) ++ sign g.Arrow false ∷ sign g.OpenBrace false ∷ (laid_from true (spell_program ss) ++ sign g.CloseBrace (after true (spell_program ss)) ∷ [])
arrow_laid b xs ss =
    ap (laid_from b) (append_assoc (spell_params xs) (t.Sign g.Arrow ∷ []) (braced (spell_program ss)))
    ∙ laid_append b (spell_params xs) (t.Sign g.Arrow ∷ braced (spell_program ss))
    ∙ ap (λ c. laid_from b (spell_params xs) ++ sign g.Arrow c ∷ laid_from false (braced (spell_program ss))) (params_end b xs)
    ∙ ap (λ z. laid_from b (spell_params xs) ++ sign g.Arrow false ∷ z) (laid_braced false (spell_program ss))

plain_arrow : {side : Side} {most : Option ℕ} (xs : List (List ℕ)) (ss : Stmts) → ParamsSaid side most xs → StmtsSaid side most ss → (b : Bool) (m : ℕ) → m ≤ 1
    → Spells side most m (suc (depth_program ss)) (Function (code None Arrow xs ss)) (laid_from b ((spell_params xs ++ t.Sign g.Arrow ∷ []) ++ braced (spell_program ss)))
plain_arrow xs ss ps p b m i = rw (arrow_laid b xs ss) (sp_arrow false (after true (spell_program ss)) i (sp_arrow_head (sp_listed_params (ps b))) (p true))

async_arrow : {side : Side} {most : Option ℕ} (xs : List (List ℕ)) (ss : Stmts) → side ≡ Source → ParamsSaid side most xs → StmtsSaid side most ss → (b : Bool) (m : ℕ) → m ≤ 1
    → Spells side most m (suc (depth_program ss)) (Function (code None AsyncArrow xs ss)) (laid_from b (t.Keyword k.Async ∷ ((spell_params xs ++ t.Sign g.Arrow ∷ []) ++ braced (spell_program ss))))
async_arrow xs ss s ps p b m i =
    rw (arrow_laid false xs ss)
    (sp_arrow {x = keyword k.Async b ∷ laid_from false (spell_params xs)} false (after true (spell_program ss)) i (sp_async_arrow_head s (sp_listed_params (ps false)) (same_line (spell_params xs))) (p true))

pub arrow_exact : {side : Side} {most : Option ℕ} {kind : FunctionKind} {xs : List (List ℕ)} {x : List Lexeme} (ss : Stmts) → SpellsArrow side most kind xs x → StmtsSaid side most ss → Exact side most (Function (code None kind xs ss))
arrow_exact ss (sp_arrow_head {xs = xs} ps) p = record {
  said = leveled 1 (λ st. (spell_params xs ++ t.Sign g.Arrow ∷ []) ++ braced (spell_program ss)) (λ st. suc (depth_program ss)) (omega arith) (λ b st m i. plain_arrow xs ss (arrow_params ps) p b m i);
  chained = tt;
}
arrow_exact ss (sp_async_arrow_head {xs = xs} s ps r) p = record {
  said = leveled 1 (λ st. t.Keyword k.Async ∷ ((spell_params xs ++ t.Sign g.Arrow ∷ []) ++ braced (spell_program ss))) (λ st. suc (depth_program ss)) (omega arith) (λ b st m i. async_arrow xs ss s (arrow_params ps) p b m i);
  chained = tt;
}
