-- Lists of parameters, and what stands before arrows and functions.
use Rattle.std.proofs.Common.{◌≡◌, ℕ, suc, ◌≤◌, List, [], ◌∷◌, ◌++◌, length, Bool, true, false, ◌&&◌, ◌||◌, cond, refl, ◌∙◌, ap, arith, append_assoc}
use Rattle.actx_grammar.specs.declared.operators.FunctionKind.{FunctionKind}
use Rattle.actx_grammar.specs.declared.operators.FunctionKind.TheVariants.{Arrow, AsyncArrow}
use Rattle.actx_grammar.specs.declared.side.Side.{Side}
use Rattle.actx_grammar.specs.declared.side.Side.TheVariants.{Source}
use Rattle.actx_grammar.specs.declared.token.Keyword.TheVariants as k
use Rattle.actx_grammar.specs.declared.token.Sign.TheVariants as g
use Rattle.actx_grammar.specs.declared.token.TokenKind.TheVariants as t
use Rattle.actx_grammar.specs.Grammar.{Allows, SpellsNames, sp_one_name, sp_more_names, SpellsParams, sp_no_params, sp_params, sp_params_comma, SpellsArrowParams, sp_bare_param, sp_listed_params, SpellsArrow, sp_arrow_head, sp_async_arrow_head}
use Rattle.actx_grammar.specs.Lexemes.{Lexeme, sign, keyword, lexeme, SameLine}
use Rattle.actx_grammar.specs.Names.{IsBinding}
use Rattle.actx_grammar.specs.Parser.{move}
use Rattle.actx_grammar.specs.ParserFunctions.{close_params}
use Rattle.actx_grammar.specs.ParserOperands.{is_binding, is_source, takes_whole, has_room, fits_below, begin_operand}
use Rattle.actx_grammar.specs.ParserState.{Limits, fits, takes_more, Head, arrow_head, Frame, in_paren, Mode, need, opened, first_name, async_next, param_next, param_behind, arrow_sign, arrow_body, go, here}
use Rattle.actx_laws.proofs.ParseCover.{name_opens}
use Rattle.actx_laws.proofs.ParseLevels.{level_in}
use Rattle.actx_laws.proofs.ParseNames.{binding_free, binding_passes, source_passes, allowed, allows_less, both}
use Rattle.actx_laws.proofs.ParseRuns.{runs, after, if_holds}
use Rattle.actx_laws.proofs.ParseSteps.{whole_taken, opens}

-- PARAMETERS
length_last : (xs : List (List ℕ)) (x : List ℕ) → length (xs ++ x ∷ []) ≡ suc (length xs)
length_last [] x = refl
length_last (y ∷ xs) x = ap suc (length_last xs x)

last_allowed : (lim : Limits) (xs : List (List ℕ)) (x : List ℕ) → Allows lim.most (length (xs ++ x ∷ [])) → takes_more lim (length xs) ≡ true
last_allowed lim xs x h = allowed lim.most (suc (length xs)) (allows_less lim.most (suc (length xs)) (length (xs ++ x ∷ [])) (omega (arith, length_last xs x)) h)

before_allowed : (lim : Limits) (xs : List (List ℕ)) (x : List ℕ) → Allows lim.most (length (xs ++ x ∷ [])) → Allows lim.most (length xs)
before_allowed lim xs x h = allows_less lim.most (length xs) (length (xs ++ x ∷ [])) (omega (arith, length_last xs x)) h

param_read : (lim : Limits) (side : Side) (h : Head) (xs : List (List ℕ)) (x : List ℕ) (b : Bool) (s : List Frame) (r : List Lexeme) → IsBinding side x → takes_more lim (length xs) ≡ true
    → runs lim side (param_next h xs) s (lexeme (t.Name x) b ∷ r) ≡ runs lim side (param_behind h (xs ++ x ∷ [])) s r
param_read lim side h xs x b s r i more = if_holds lim side (is_binding side x && takes_more lim (length xs)) (param_behind h (xs ++ x ∷ [])) s r (both (is_binding side x) (takes_more lim (length xs)) (binding_passes i) more)

first_read : (lim : Limits) (side : Side) (x : List ℕ) (b : Bool) (s : List Frame) (r : List Lexeme) → IsBinding side x → runs lim side opened s (lexeme (t.Name x) b ∷ r) ≡ runs lim side (first_name x) s r
first_read lim side x b s r h = ap (λ c. after lim side r (cond c (go (first_name x) s) (begin_operand lim side (in_paren ∷ s) (t.Name x)))) (binding_passes h)

-- the names of a list that goes on, and of one that ends
names_more : {side : Side} {xs : List (List ℕ)} {y : List Lexeme} (lim : Limits) (n : SpellsNames side xs y) (h : Head) (b : Bool) (s : List Frame) (r : List Lexeme) → Allows lim.most (length xs)
    → runs lim side (param_next h []) s (y ++ sign g.Comma b ∷ r) ≡ runs lim side (param_next h xs) s r
names_more {side = side} lim (sp_one_name {x = x} {b = c} i) h b s r a = param_read lim side h [] x c s (sign g.Comma b ∷ r) i (allowed lim.most 1 a)
names_more {side = side} lim (sp_more_names {xs = xs} {x = x} {y = y} c d n i) h b s r a =
    ap (runs lim side (param_next h []) s) (append_assoc y (sign g.Comma c ∷ lexeme (t.Name x) d ∷ []) (sign g.Comma b ∷ r))
    ∙ names_more lim n h c s (lexeme (t.Name x) d ∷ sign g.Comma b ∷ r) (before_allowed lim xs x a)
    ∙ param_read lim side h xs x d s (sign g.Comma b ∷ r) i (last_allowed lim xs x a)

names_end : {side : Side} {xs : List (List ℕ)} {y : List Lexeme} (lim : Limits) (n : SpellsNames side xs y) (h : Head) (b : Bool) (s : List Frame) (r : List Lexeme) → Allows lim.most (length xs)
    → runs lim side (param_next h []) s (y ++ sign g.CloseParen b ∷ r) ≡ after lim side r (close_params h xs s)
names_end {side = side} lim (sp_one_name {x = x} {b = c} i) h b s r a = param_read lim side h [] x c s (sign g.CloseParen b ∷ r) i (allowed lim.most 1 a)
names_end {side = side} lim (sp_more_names {xs = xs} {x = x} {y = y} c d n i) h b s r a =
    ap (runs lim side (param_next h []) s) (append_assoc y (sign g.Comma c ∷ lexeme (t.Name x) d ∷ []) (sign g.CloseParen b ∷ r))
    ∙ names_more lim n h c s (lexeme (t.Name x) d ∷ sign g.CloseParen b ∷ r) (before_allowed lim xs x a)
    ∙ param_read lim side h xs x d s (sign g.CloseParen b ∷ r) i (last_allowed lim xs x a)

-- parameters where a parenthesis opens their list
pub params_read : {side : Side} {xs : List (List ℕ)} {y : List Lexeme} (lim : Limits) (p : SpellsParams side lim.most xs y) (m : Mode) (h : Head) (s : List Frame) (r : List Lexeme) → ((b : Bool) → move lim side m s (t.Sign g.OpenParen) b ≡ go (param_next h []) s)
    → runs lim side m s (y ++ r) ≡ after lim side r (close_params h xs s)
params_read {side = side} lim (sp_no_params {b = b} {c = c}) m h s r on = ap (after lim side (sign g.CloseParen c ∷ r)) (on b)
params_read {side = side} lim (sp_params {y = y} b c n a) m h s r on =
    ap (after lim side ((y ++ sign g.CloseParen c ∷ []) ++ r)) (on b)
    ∙ ap (runs lim side (param_next h []) s) (append_assoc y (sign g.CloseParen c ∷ []) r)
    ∙ names_end lim n h c s r a
params_read {side = side} lim (sp_params_comma {y = y} b c d n a) m h s r on =
    ap (after lim side ((y ++ sign g.Comma c ∷ sign g.CloseParen d ∷ []) ++ r)) (on b)
    ∙ ap (runs lim side (param_next h []) s) (append_assoc y (sign g.Comma c ∷ sign g.CloseParen d ∷ []) r)
    ∙ names_more lim n h c s (sign g.CloseParen d ∷ r) a

-- ARROWS
-- the parameters of an arrow whose parenthesis might hold an expression
opened_more : {side : Side} {xs : List (List ℕ)} {y : List Lexeme} (lim : Limits) (n : SpellsNames side xs y) (b : Bool) (s : List Frame) (r : List Lexeme) → level_in s ≤ 1 → Allows lim.most (length xs)
    → runs lim side opened s (y ++ sign g.Comma b ∷ r) ≡ runs lim side (param_next (arrow_head Arrow) xs) s r
opened_more {side = side} lim (sp_one_name {x = x} {b = c} h) b s r l a =
    first_read lim side x c s (sign g.Comma b ∷ r) h
    ∙ if_holds lim side (takes_whole s) (param_next (arrow_head Arrow) (x ∷ [])) s r (whole_taken s l)
opened_more {side = side} lim (sp_more_names {xs = xs} {x = x} {y = y} c d n h) b s r l a =
    ap (runs lim side opened s) (append_assoc y (sign g.Comma c ∷ lexeme (t.Name x) d ∷ []) (sign g.Comma b ∷ r))
    ∙ opened_more lim n c s (lexeme (t.Name x) d ∷ sign g.Comma b ∷ r) l (before_allowed lim xs x a)
    ∙ param_read lim side (arrow_head Arrow) xs x d s (sign g.Comma b ∷ r) h (last_allowed lim xs x a)

opened_end : {side : Side} {xs : List (List ℕ)} {y : List Lexeme} (lim : Limits) (n : SpellsNames side xs y) (b : Bool) (s : List Frame) (r : List Lexeme) → level_in s ≤ 1 → Allows lim.most (length xs)
    → runs lim side opened s (y ++ sign g.CloseParen b ∷ sign g.Arrow false ∷ r) ≡ runs lim side (arrow_body Arrow xs) s r
opened_end {side = side} lim (sp_one_name {x = x} {b = c} h) b s r l a =
    first_read lim side x c s (sign g.CloseParen b ∷ sign g.Arrow false ∷ r) h
    ∙ if_holds lim side (takes_whole s && true) (arrow_body Arrow (x ∷ [])) s r (both (takes_whole s) true (whole_taken s l) refl)
opened_end {side = side} lim (sp_more_names {xs = xs} {x = x} {y = y} c d n h) b s r l a =
    ap (runs lim side opened s) (append_assoc y (sign g.Comma c ∷ lexeme (t.Name x) d ∷ []) (sign g.CloseParen b ∷ sign g.Arrow false ∷ r))
    ∙ opened_more lim n c s (lexeme (t.Name x) d ∷ sign g.CloseParen b ∷ sign g.Arrow false ∷ r) l (before_allowed lim xs x a)
    ∙ param_read lim side (arrow_head Arrow) xs x d s (sign g.CloseParen b ∷ sign g.Arrow false ∷ r) h (last_allowed lim xs x a)

left_true : (a b : Bool) → a ≡ true → a || b ≡ true
left_true a b h = ap (λ c. c || b) h

paren_opens : (lim : Limits) (side : Side) (s : List Frame) (b : Bool) (r : List Lexeme) → fits lim (here s) ≡ true → has_room lim s ≡ true → level_in s ≤ 1
    → runs lim side need s (sign g.OpenParen b ∷ r) ≡ runs lim side opened s r
paren_opens lim side s b r m room l =
    ap (after lim side r) (opens lim side s (t.Sign g.OpenParen) m room)
    ∙ if_holds lim side (takes_whole s || fits_below lim s) opened s r (left_true (takes_whole s) (fits_below lim s) (whole_taken s l))

listed_read : {side : Side} {xs : List (List ℕ)} {x : List Lexeme} (lim : Limits) (p : SpellsParams side lim.most xs x) (s : List Frame) (r : List Lexeme) → fits lim (here s) ≡ true → has_room lim s ≡ true → level_in s ≤ 1
    → runs lim side need s (x ++ sign g.Arrow false ∷ r) ≡ runs lim side (arrow_body Arrow xs) s r
listed_read {side = side} lim (sp_no_params {b = b} {c = c}) s r m room l =
    paren_opens lim side s b (sign g.CloseParen c ∷ sign g.Arrow false ∷ r) m room l
    ∙ if_holds lim side (takes_whole s) (arrow_sign Arrow []) s (sign g.Arrow false ∷ r) (whole_taken s l)
listed_read {side = side} lim (sp_params {y = y} b c n a) s r m room l =
    paren_opens lim side s b ((y ++ sign g.CloseParen c ∷ []) ++ sign g.Arrow false ∷ r) m room l
    ∙ ap (runs lim side opened s) (append_assoc y (sign g.CloseParen c ∷ []) (sign g.Arrow false ∷ r))
    ∙ opened_end lim n c s r l a
listed_read {side = side} lim (sp_params_comma {y = y} b c d n a) s r m room l =
    paren_opens lim side s b ((y ++ sign g.Comma c ∷ sign g.CloseParen d ∷ []) ++ sign g.Arrow false ∷ r) m room l
    ∙ ap (runs lim side opened s) (append_assoc y (sign g.Comma c ∷ sign g.CloseParen d ∷ []) (sign g.Arrow false ∷ r))
    ∙ opened_more lim n c s (sign g.CloseParen d ∷ sign g.Arrow false ∷ r) l a

-- behind async
async_read : {side : Side} {xs : List (List ℕ)} {x : List Lexeme} (lim : Limits) (p : SpellsArrowParams side lim.most xs x) (s : List Frame) (r : List Lexeme) → SameLine x → level_in s ≤ 1
    → runs lim side async_next s (x ++ sign g.Arrow false ∷ r) ≡ runs lim side (arrow_body AsyncArrow xs) s r
async_read {side = side} lim (sp_bare_param {x = x} {b = false} h c) s r i l =
    if_holds lim side (takes_whole s && is_binding side x) (arrow_sign AsyncArrow (x ∷ [])) s (sign g.Arrow false ∷ r) (both (takes_whole s) (is_binding side x) (whole_taken s l) (binding_passes h))
async_read {side = side} lim (sp_bare_param {x = x} {b = true} h c) s r i l = absurd (cc)
async_read {side = side} lim (sp_listed_params (sp_no_params {b = false} {c = c})) s r i l =
    if_holds lim side (takes_whole s) (param_next (arrow_head AsyncArrow) []) s (sign g.CloseParen c ∷ sign g.Arrow false ∷ r) (whole_taken s l)
async_read {side = side} lim (sp_listed_params (sp_params {y = y} false c n a)) s r i l =
    if_holds lim side (takes_whole s) (param_next (arrow_head AsyncArrow) []) s ((y ++ sign g.CloseParen c ∷ []) ++ sign g.Arrow false ∷ r) (whole_taken s l)
    ∙ ap (runs lim side (param_next (arrow_head AsyncArrow) []) s) (append_assoc y (sign g.CloseParen c ∷ []) (sign g.Arrow false ∷ r))
    ∙ names_end lim n (arrow_head AsyncArrow) c s (sign g.Arrow false ∷ r) a
async_read {side = side} lim (sp_listed_params (sp_params_comma {y = y} false c d n a)) s r i l =
    if_holds lim side (takes_whole s) (param_next (arrow_head AsyncArrow) []) s ((y ++ sign g.Comma c ∷ sign g.CloseParen d ∷ []) ++ sign g.Arrow false ∷ r) (whole_taken s l)
    ∙ ap (runs lim side (param_next (arrow_head AsyncArrow) []) s) (append_assoc y (sign g.Comma c ∷ sign g.CloseParen d ∷ []) (sign g.Arrow false ∷ r))
    ∙ names_more lim n (arrow_head AsyncArrow) c s (sign g.CloseParen d ∷ sign g.Arrow false ∷ r) a
async_read {side = side} lim (sp_listed_params (sp_no_params {b = true} {c = c})) s r i l = absurd (cc)
async_read {side = side} lim (sp_listed_params (sp_params true c n a)) s r i l = absurd (cc)
async_read {side = side} lim (sp_listed_params (sp_params_comma true c d n a)) s r i l = absurd (cc)

async_opens : (lim : Limits) (side : Side) (s : List Frame) (b : Bool) (r : List Lexeme) → side ≡ Source → fits lim (here s) ≡ true → has_room lim s ≡ true
    → runs lim side need s (keyword k.Async b ∷ r) ≡ runs lim side async_next s r
async_opens lim side s b r h m room =
    ap (after lim side r) (opens lim side s (t.Keyword k.Async) m room)
    ∙ if_holds lim side (is_source side) async_next s r (source_passes h)

pub arrow_read : {side : Side} {kind : FunctionKind} {xs : List (List ℕ)} {x : List Lexeme} (lim : Limits) (p : SpellsArrow side lim.most kind xs x) (s : List Frame) (r : List Lexeme) → fits lim (here s) ≡ true → has_room lim s ≡ true → level_in s ≤ 1
    → runs lim side need s (x ++ sign g.Arrow false ∷ r) ≡ runs lim side (arrow_body kind xs) s r
arrow_read {side = side} lim (sp_arrow_head (sp_bare_param {x = x} {b = b} h c)) s r m room l =
    ap (after lim side (sign g.Arrow false ∷ r)) (opens lim side s (t.Name x) m room ∙ name_opens lim side s x (binding_free h))
    ∙ if_holds lim side (takes_whole s) (arrow_body Arrow (x ∷ [])) s r (whole_taken s l)
arrow_read lim (sp_arrow_head (sp_listed_params p)) s r m room l = listed_read lim p s r m room l
arrow_read {side = side} lim (sp_async_arrow_head {x = x} {b = b} h p i) s r m room l =
    async_opens lim side s b (x ++ sign g.Arrow false ∷ r) h m room
    ∙ async_read lim p s r i l
