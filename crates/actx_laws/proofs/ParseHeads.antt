-- What stands before the bodies of functions is read.
use Rattle.std.proofs.Common.{◌≡◌, ℕ, List, ◌∷◌, ◌++◌, Bool, true, false, Option, Some, None, cond, refl, ◌∙◌, ap}
use Rattle.actx_grammar.specs.declared.operators.FunctionKind.{FunctionKind}
use Rattle.actx_grammar.specs.declared.operators.FunctionKind.TheVariants.{Normal, Generator, Async}
use Rattle.actx_grammar.specs.declared.side.Side.{Side}
use Rattle.actx_grammar.specs.declared.side.Side.TheVariants.{Source, Plain}
use Rattle.actx_grammar.specs.declared.token.Keyword.TheVariants as k
use Rattle.actx_grammar.specs.declared.token.Sign.TheVariants as g
use Rattle.actx_grammar.specs.declared.token.TokenKind.TheVariants as t
use Rattle.actx_grammar.specs.Grammar.{SpellsParams, SpellsHead, sp_normal, sp_normal_named, sp_generator, sp_generator_named, sp_async, sp_async_named}
use Rattle.actx_grammar.specs.Lexemes.{Lexeme, sign, keyword, lexeme}
use Rattle.actx_grammar.specs.ParserOperands.{is_binding, is_source, begins_statement, has_room}
use Rattle.actx_grammar.specs.ParserState.{Limits, fits, expression, declaration, function_head, Frame, start, need, async_next, async_start, function_next, name_next, params_open, body_open, here}
use Rattle.actx_laws.proofs.ParseNames.{binding_passes, source_passes}
use Rattle.actx_laws.proofs.ParseParams.{params_read}
use Rattle.actx_laws.proofs.ParseRuns.{runs, after, if_holds}
use Rattle.actx_laws.proofs.ParseSteps.{Starts, inside, opens}

-- the word function where no statement begins
function_opens : (lim : Limits) (side : Side) (s : List Frame) (b : Bool) (r : List Lexeme) → fits lim (here s) ≡ true → has_room lim s ≡ true → begins_statement s ≡ false
    → runs lim side need s (keyword k.Function b ∷ r) ≡ runs lim side (function_next expression) s r
function_opens lim side s b r m room h =
    ap (after lim side r) (opens lim side s (t.Keyword k.Function) m room)
    ∙ if_holds lim side (cond (begins_statement s) false true) (function_next expression) s r (ap (λ c. cond c false true) h)

async_opens : (lim : Limits) (side : Side) (s : List Frame) (b : Bool) (r : List Lexeme) → side ≡ Source → fits lim (here s) ≡ true → has_room lim s ≡ true → begins_statement s ≡ false
    → runs lim side need s (keyword k.Async b ∷ keyword k.Function false ∷ r) ≡ runs lim side (name_next expression Async) s r
async_opens lim side s b r i m room h =
    ap (after lim side (keyword k.Function false ∷ r)) (opens lim side s (t.Keyword k.Async) m room)
    ∙ if_holds lim side (is_source side) async_next s (keyword k.Function false ∷ r) (source_passes i)
    ∙ if_holds lim side (cond (begins_statement s) false true) (name_next expression Async) s r (ap (λ c. cond c false true) h)

-- a function that is an expression, up to its body
pub head_read : {side : Side} {kind : FunctionKind} {name : Option (List ℕ)} {xs : List (List ℕ)} {x y : List Lexeme} (lim : Limits) (h : SpellsHead side kind name x) (p : SpellsParams side lim.most xs y) (z : List Lexeme) (s : List Frame) (r : List Lexeme)
    → fits lim (here s) ≡ true → has_room lim s ≡ true → Starts s (x ++ z)
    → runs lim side need s (x ++ (y ++ r)) ≡ runs lim side (body_open (function_head expression kind name) xs) s r
head_read {side = side} {y = y} lim (sp_normal {b = b}) p z s r m room w =
    function_opens lim side s b (y ++ r) m room (inside s (keyword k.Function b ∷ z) (λ i. i) w)
    ∙ params_read lim p (function_next expression) (function_head expression Normal None) s r (λ c. refl)
head_read {side = side} {y = y} lim (sp_normal_named {x = x} {b = b} {c = c} i) p z s r m room w =
    function_opens lim side s b (lexeme (t.Name x) c ∷ (y ++ r)) m room (inside s (keyword k.Function b ∷ lexeme (t.Name x) c ∷ z) (λ i. i) w)
    ∙ if_holds lim side (is_binding side x) (params_open (function_head expression Normal (Some x))) s (y ++ r) (binding_passes i)
    ∙ params_read lim p (params_open (function_head expression Normal (Some x))) (function_head expression Normal (Some x)) s r (λ c. refl)
head_read {side = side} {y = y} lim (sp_generator {b = b} {c = c} j) p z s r m room w =
    function_opens lim side s b (sign g.Star c ∷ (y ++ r)) m room (inside s (keyword k.Function b ∷ sign g.Star c ∷ z) (λ i. i) w)
    ∙ if_holds lim side (is_source side) (name_next expression Generator) s (y ++ r) (source_passes j)
    ∙ params_read lim p (name_next expression Generator) (function_head expression Generator None) s r (λ c. refl)
head_read {side = side} {y = y} lim (sp_generator_named {x = x} {b = b} {c = c} {d = d} j i) p z s r m room w =
    function_opens lim side s b (sign g.Star c ∷ lexeme (t.Name x) d ∷ (y ++ r)) m room (inside s (keyword k.Function b ∷ sign g.Star c ∷ lexeme (t.Name x) d ∷ z) (λ i. i) w)
    ∙ if_holds lim side (is_source side) (name_next expression Generator) s (lexeme (t.Name x) d ∷ (y ++ r)) (source_passes j)
    ∙ if_holds lim side (is_binding side x) (params_open (function_head expression Generator (Some x))) s (y ++ r) (binding_passes i)
    ∙ params_read lim p (params_open (function_head expression Generator (Some x))) (function_head expression Generator (Some x)) s r (λ c. refl)
head_read {side = side} {y = y} lim (sp_async {b = b} j) p z s r m room w =
    async_opens lim side s b (y ++ r) j m room (inside s (keyword k.Async b ∷ keyword k.Function false ∷ z) (λ i. i) w)
    ∙ params_read lim p (name_next expression Async) (function_head expression Async None) s r (λ c. refl)
head_read {side = side} {y = y} lim (sp_async_named {x = x} {b = b} {c = c} j i) p z s r m room w =
    async_opens lim side s b (lexeme (t.Name x) c ∷ (y ++ r)) j m room (inside s (keyword k.Async b ∷ keyword k.Function false ∷ lexeme (t.Name x) c ∷ z) (λ i. i) w)
    ∙ if_holds lim side (is_binding side x) (params_open (function_head expression Async (Some x))) s (y ++ r) (binding_passes i)
    ∙ params_read lim p (params_open (function_head expression Async (Some x))) (function_head expression Async (Some x)) s r (λ c. refl)

-- a declaration, up to its body
pub declaration_read : {side : Side} {kind : FunctionKind} {name : List ℕ} {xs : List (List ℕ)} {x y : List Lexeme} (lim : Limits) (h : SpellsHead side kind (Some name) x) (p : SpellsParams side lim.most xs y) (s : List Frame) (r : List Lexeme)
    → fits lim (here s) ≡ true
    → runs lim side start s (x ++ (y ++ r)) ≡ runs lim side (body_open (function_head declaration kind (Some name)) xs) s r
declaration_read {side = side} {y = y} lim (sp_normal_named {x = x} {b = b} {c = c} i) p s r m =
    if_holds lim side (fits lim (here s)) (function_next declaration) s (lexeme (t.Name x) c ∷ (y ++ r)) m
    ∙ if_holds lim side (is_binding side x) (params_open (function_head declaration Normal (Some x))) s (y ++ r) (binding_passes i)
    ∙ params_read lim p (params_open (function_head declaration Normal (Some x))) (function_head declaration Normal (Some x)) s r (λ c. refl)
declaration_read {side = side} {y = y} lim (sp_generator_named {x = x} {b = b} {c = c} {d = d} j i) p s r m =
    if_holds lim side (fits lim (here s)) (function_next declaration) s (sign g.Star c ∷ lexeme (t.Name x) d ∷ (y ++ r)) m
    ∙ if_holds lim side (is_source side) (name_next declaration Generator) s (lexeme (t.Name x) d ∷ (y ++ r)) (source_passes j)
    ∙ if_holds lim side (is_binding side x) (params_open (function_head declaration Generator (Some x))) s (y ++ r) (binding_passes i)
    ∙ params_read lim p (params_open (function_head declaration Generator (Some x))) (function_head declaration Generator (Some x)) s r (λ c. refl)
declaration_read {side = Source} {y = y} lim (sp_async_named {x = x} {b = b} {c = c} j i) p s r m =
    if_holds lim Source (fits lim (here s)) async_start s (keyword k.Function false ∷ lexeme (t.Name x) c ∷ (y ++ r)) m
    ∙ if_holds lim Source (is_binding Source x) (params_open (function_head declaration Async (Some x))) s (y ++ r) (binding_passes i)
    ∙ params_read lim p (params_open (function_head declaration Async (Some x))) (function_head declaration Async (Some x)) s r (λ c. refl)
declaration_read {side = Plain} lim (sp_async_named j i) p s r m = absurd (cc)
