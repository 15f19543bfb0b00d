-- The walk notes the places of nodes: arrow functions, whose own parenthesis is told from one round them.
use Rattle.std.proofs.Common.{◌≡◌, ℕ, zero, suc, ◌+◌, List, [], ◌∷◌, ◌++◌, length, Bool, true, false, ◌||◌, Option, Some, None, refl, sym, ◌∙◌, ap, subst, arith, append_assoc}
use Rattle.actx_grammar.specs.declared.operators.FunctionKind.{FunctionKind}
use Rattle.actx_grammar.specs.declared.operators.FunctionKind.TheVariants.{Arrow, AsyncArrow}
use Rattle.actx_grammar.specs.declared.side.Side.{Side}
use Rattle.actx_grammar.specs.declared.token.Keyword.TheVariants as k
use Rattle.actx_grammar.specs.declared.token.Sign.TheVariants as s
use Rattle.actx_grammar.specs.declared.token.TokenKind.TheVariants as t
use Rattle.actx_grammar.specs.Grammar.{SpellsNames, sp_one_name, sp_more_names, SpellsParams, sp_no_params, sp_params, sp_params_comma, SpellsArrowParams, sp_bare_param, sp_listed_params, SpellsArrow, sp_arrow_head, sp_async_arrow_head}
use Rattle.actx_grammar.specs.Lexemes.{Lexeme, sign, keyword, lexeme}
use Rattle.actx_grammar.specs.Places.{arrow_params_places, arrow_places}
use Rattle.actx_places.specs.Walk.{Group, group, Walk, walk, is_sign, step, pass, mark, open_arrow, begins_params, own_arrow, params, arrow_params, head_words}
use Rattle.actx_places.proofs.WalkSteps.{Goes, Row, opens, goes_step, goes_before, leaf, row_as}
use Rattle.actx_places.proofs.WalkRows.{names_go, params_go, goes_by}

-- names in parentheses are parameters
names_begin : {side : Side} {xs : List (List ℕ)} {x : List Lexeme} (w : Lexeme) (ts : List Lexeme) → (is_sign s.Comma w.kind || is_sign s.CloseParen w.kind) ≡ true → SpellsNames side xs x → begins_params (x ++ w ∷ ts) ≡ true
names_begin w ts e (sp_one_name i) = e
names_begin w ts e (sp_more_names {x = x} {y = y} b c p i) = ap begins_params (append_assoc y (sign s.Comma b ∷ lexeme (t.Name x) c ∷ []) (w ∷ ts)) ∙ names_begin (sign s.Comma b) (lexeme (t.Name x) c ∷ w ∷ ts) refl p

-- tokens that begin an arrow: none of its parentheses is round it
record Begins (y : List Lexeme) : Type 0 where
  pub own : (w : Walk) → open_arrow y w ≡ w
  pub apart : begins_params y ≡ false

behind_params : {side : Side} {most : Option ℕ} {xs : List (List ℕ)} {x : List Lexeme} (ts : List Lexeme) → SpellsParams side most xs x → Begins (x ++ ts)
behind_params ts (sp_no_params) = record { own = λ w. refl; apart = refl }
behind_params ts (sp_params {y = y} b c p i) =
    let e : begins_params ((y ++ sign s.CloseParen c ∷ []) ++ ts) ≡ true = ap begins_params (append_assoc y (sign s.CloseParen c ∷ []) ts) ∙ names_begin (sign s.CloseParen c) ts refl p in
    record { own = λ w. cc; apart = refl }
behind_params ts (sp_params_comma {y = y} b c d p i) =
    let e : begins_params ((y ++ sign s.Comma c ∷ sign s.CloseParen d ∷ []) ++ ts) ≡ true = ap begins_params (append_assoc y (sign s.Comma c ∷ sign s.CloseParen d ∷ []) ts) ∙ names_begin (sign s.Comma c) (sign s.CloseParen d ∷ ts) refl p in
    record { own = λ w. cc; apart = refl }

begins : {side : Side} {most : Option ℕ} {xs : List (List ℕ)} {x : List Lexeme} (ts : List Lexeme) → SpellsArrowParams side most xs x → Begins (x ++ sign s.Arrow false ∷ ts)
begins ts (sp_bare_param i a) = record { own = λ w. refl; apart = refl }
begins ts (sp_listed_params p) = behind_params (sign s.Arrow false ∷ ts) p

apart_more : (bs : List Bool) (y : List Lexeme) → Begins y → begins_params (opens bs ++ y) ≡ false
apart_more [] y h = h.apart
apart_more (b ∷ bs) y h = refl

opened : (bs : List Bool) (y : List Lexeme) (m c : ℕ) (ps : List ℕ) (gs : List Group) → Begins y → open_arrow (opens bs ++ y) (walk m (opens bs ++ y) ps (group c m ∷ gs)) ≡ walk (m + length bs) y ps (group c (m + length bs) ∷ gs)
opened [] y m c ps gs h = h.own _ ∙ (let a : m ≡ m + 0 = omega arith in cc)
opened (b ∷ bs) y m c ps gs h =
    let e = apart_more bs y h in
    let i = opened bs y (suc m) c ps gs h in
    let a : suc m + length bs ≡ m + suc (length bs) = omega arith in
    cc

arrow_leaf : {g : Walk → Walk} {x : List Lexeme} {q : ℕ → List ℕ} → ((ts : List Lexeme) → Begins (x ++ ts)) → Goes g x q → Row (λ w. g (own_arrow Arrow w)) x (λ n. n ∷ q n)
arrow_leaf {g = g} {x = x} {q = q} b h = record {
  leads = λ bs c n ts ps gs i.
      ap (λ w. g (mark w)) (opened bs (x ++ ts) c c ps gs (b ts))
      ∙ ap (λ m. g (walk m (x ++ ts) (ps ++ m ∷ []) (group c m ∷ gs))) i
      ∙ h.passes n ts (ps ++ n ∷ []) (group c n ∷ gs)
      ∙ ap (λ z. walk (n + length x) ts z (group c n ∷ gs)) (append_assoc ps (n ∷ []) (q n));
}

params_of_arrow : {side : Side} {most : Option ℕ} {xs : List (List ℕ)} {x : List Lexeme} (p : SpellsArrowParams side most xs x) → Goes (arrow_params xs) x (λ n. arrow_params_places n p)
params_of_arrow (sp_bare_param {x = x} {b = b} i a) = record { passes = λ n ts ps gs. (names_go (sp_one_name {b = b} i)).passes n ts ps gs }
params_of_arrow (sp_listed_params p) = record { passes = λ n ts ps gs. listed p n ts ps gs ∙ (params_go p).passes n ts ps gs }
  where
    listed : {side : Side} {most : Option ℕ} {xs : List (List ℕ)} {x : List Lexeme} (p : SpellsParams side most xs x) (n : ℕ) (ts : List Lexeme) (ps : List ℕ) (gs : List Group) → arrow_params xs (walk n (x ++ ts) ps gs) ≡ params xs (walk n (x ++ ts) ps gs)
    listed sp_no_params n ts ps gs = refl
    listed (sp_params b c p i) n ts ps gs = refl
    listed (sp_params_comma b c d p i) n ts ps gs = refl

-- the parameters of an arrow with what stands before them, its sign and what stands behind
pub arrow_goes : {side : Side} {most : Option ℕ} {kind : FunctionKind} {xs : List (List ℕ)} {x y : List Lexeme} {g : Walk → Walk} {q : ℕ → List ℕ} (p : SpellsArrow side most kind xs x) → Goes g y q → Row (λ w. g (step (arrow_params xs (pass (head_words kind) (own_arrow kind w))))) (x ++ sign s.Arrow false ∷ y) (λ n. n ∷ (arrow_places n p ++ q (suc (n + length x))))
arrow_goes {y = y} {g = g} {q = q} (sp_arrow_head p) h = arrow_leaf (λ ts. subst Begins (sym (append_assoc _ (sign s.Arrow false ∷ y) ts)) (begins (y ++ ts) p)) (goes_before (params_of_arrow p) (goes_step (sign s.Arrow false) h))
arrow_goes {q = q} (sp_async_arrow_head {x = x} {b = b} e p i) h =
    row_as (leaf (keyword k.Async b) refl (goes_step (keyword k.Async b) (goes_before (params_of_arrow p) (goes_step (sign s.Arrow false) h)))) refl (λ n. let j : suc (suc n + length x) ≡ suc (n + suc (length x)) = omega arith in cc)
