-- The walk notes the places of nodes: names, parameters and heads.
use Rattle.std.proofs.Common.{◌≡◌, ℕ, zero, suc, ◌+◌, List, [], ◌∷◌, ◌++◌, length, Bool, true, false, Option, Some, None, refl, sym, ◌∙◌, ap, subst, arith, append_assoc}
use Rattle.std.proofs.lemmas.List.{append-nil, length-append}
use Rattle.actx_grammar.specs.declared.operators.FunctionKind.{FunctionKind}
use Rattle.actx_grammar.specs.declared.operators.FunctionKind.TheVariants.{Normal, Arrow, Generator, Async, AsyncArrow, AsyncGenerator}
use Rattle.actx_grammar.specs.declared.side.Side.{Side}
use Rattle.actx_grammar.specs.declared.token.Keyword.TheVariants as k
use Rattle.actx_grammar.specs.declared.token.Sign.TheVariants as s
use Rattle.actx_grammar.specs.declared.token.TokenKind.TheVariants as t
use Rattle.actx_grammar.specs.Grammar.{SpellsNames, sp_one_name, sp_more_names, SpellsParams, sp_no_params, sp_params, sp_params_comma, SpellsHead, sp_normal, sp_normal_named, sp_generator, sp_generator_named, sp_async, sp_async_named}
use Rattle.actx_grammar.specs.Lexemes.{Lexeme, sign, keyword, lexeme}
use Rattle.actx_grammar.specs.Places.{names_places, params_places, head_places}
use Rattle.actx_places.specs.Walk.{Walk, walk, is_sign, step, pass, pass_if, comma, mark, more_names, names, params, own_name, head_words}
use Rattle.actx_places.proofs.WalkSteps.{Goes, goes_end, goes_step, goes_mark, goes_before, goes_last, goes_as}

-- one more name at the end
more_last : (xs : List (List ℕ)) (x : List ℕ) (w : Walk) → more_names (xs ++ x ∷ []) w ≡ step (mark (step (more_names xs w)))
more_last [] x w = refl
more_last (y ∷ ys) x w = more_last ys x (step (mark (step w)))

names_last : (y : List ℕ) (ys : List (List ℕ)) (x : List ℕ) (w : Walk) → names ((y ∷ ys) ++ x ∷ []) w ≡ step (mark (step (names (y ∷ ys) w)))
names_last y ys x w = more_last ys x (step (mark w))

pub goes_by : {f g : Walk → Walk} {x : List Lexeme} {p : ℕ → List ℕ} → ((w : Walk) → g w ≡ f w) → Goes f x p → Goes g x p
goes_by e h = record { passes = λ n ts ps gs. e _ ∙ h.passes n ts ps gs }

some_names : {side : Side} {xs : List (List ℕ)} {x : List Lexeme} → SpellsNames side xs x → (y : List ℕ) × (ys : List (List ℕ)) × (xs ≡ y ∷ ys)
some_names (sp_one_name {x = x} i) = (x, [], refl)
some_names (sp_more_names {xs = xs} {x = x} b c p i) = let q = some_names p in (q.0, q.1 ++ x ∷ [], ap (λ z. z ++ x ∷ []) q.2)

pub names_go : {side : Side} {xs : List (List ℕ)} {x : List Lexeme} (p : SpellsNames side xs x) → Goes (names xs) x (λ n. names_places n p)
names_go (sp_one_name {x = x} {b = b} i) = goes_mark (goes_step (lexeme (t.Name x) b) goes_end)
names_go (sp_more_names {xs = xs} {x = x} {y = y} b c p i) =
    let q = some_names p in
    let h : Goes (λ w. step (mark (step (names xs w)))) (y ++ sign s.Comma b ∷ lexeme (t.Name x) c ∷ []) (λ n. names_places n p ++ suc (n + length y) ∷ []) = goes_before (names_go p) (goes_step (sign s.Comma b) (goes_mark (goes_step (lexeme (t.Name x) c) goes_end))) in
    goes_by (λ w. subst (λ z. names (z ++ x ∷ []) w ≡ step (mark (step (names z w)))) (sym q.2) (names_last q.0 q.1 x w)) h

-- a comma that is left out, and one that stands there
pub goes_no_comma : {f : Walk → Walk} {x : List Lexeme} {p : ℕ → List ℕ} (t : Lexeme) → is_sign s.Comma t.kind ≡ false → Goes f x p → Goes (λ w. step (comma (f w))) (x ++ t ∷ []) p
goes_no_comma {f = f} {x = x} {p = p} t e a = record {
  passes = λ n ts ps gs.
      ap (λ z. step (comma (f (walk n z ps gs)))) (append_assoc x (t ∷ []) ts)
      ∙ ap (λ w. step (comma w)) (a.passes n (t ∷ ts) ps gs)
      ∙ ap (λ z. step (pass_if z (walk (n + length x) (t ∷ ts) (ps ++ p n) gs))) e
      ∙ (let i : length (x ++ t ∷ []) ≡ length x + 1 = length-append x (t ∷ []) in let j : suc (n + length x) ≡ n + length (x ++ t ∷ []) = omega arith in cc);
}

pub goes_comma : {f : Walk → Walk} {x : List Lexeme} {p : ℕ → List ℕ} (b : Bool) (t : Lexeme) → Goes f x p → Goes (λ w. step (comma (f w))) (x ++ sign s.Comma b ∷ t ∷ []) p
goes_comma {f = f} {x = x} {p = p} b t a = record {
  passes = λ n ts ps gs.
      ap (λ z. step (comma (f (walk n z ps gs)))) (append_assoc x (sign s.Comma b ∷ t ∷ []) ts)
      ∙ ap (λ w. step (comma w)) (a.passes n (sign s.Comma b ∷ t ∷ ts) ps gs)
      ∙ (let i : length (x ++ sign s.Comma b ∷ t ∷ []) ≡ length x + 2 = length-append x (sign s.Comma b ∷ t ∷ []) in let j : suc (suc (n + length x)) ≡ n + length (x ++ sign s.Comma b ∷ t ∷ []) = omega arith in cc);
}

pub params_go : {side : Side} {most : Option ℕ} {xs : List (List ℕ)} {x : List Lexeme} (p : SpellsParams side most xs x) → Goes (params xs) x (λ n. params_places n p)
params_go (sp_no_params {b = b} {c = c}) = goes_step (sign s.OpenParen b) (goes_no_comma (sign s.CloseParen c) refl goes_end)
params_go (sp_params b c p i) = goes_step (sign s.OpenParen b) (goes_no_comma (sign s.CloseParen c) refl (names_go p))
params_go (sp_params_comma b c d p i) = goes_step (sign s.OpenParen b) (goes_comma c (sign s.CloseParen d) (names_go p))

-- the words before a function's parameters
abbrev pub head : FunctionKind → Option (List ℕ) → Walk → Walk
head kind x w = own_name x (pass (head_words kind) w)

pub head_goes : {side : Side} {kind : FunctionKind} {x : Option (List ℕ)} {y : List Lexeme} (p : SpellsHead side kind x y) → Goes (head kind x) y (λ n. head_places n p)
head_goes (sp_normal {b = b}) = goes_step (keyword k.Function b) goes_end
head_goes (sp_normal_named {x = x} {b = b} {c = c} i) = goes_step (keyword k.Function b) (goes_mark (goes_step (lexeme (t.Name x) c) goes_end))
head_goes (sp_generator {b = b} {c = c} e) = goes_step (keyword k.Function b) (goes_step (sign s.Star c) goes_end)
head_goes (sp_generator_named {x = x} {b = b} {c = c} {d = d} e i) = goes_step (keyword k.Function b) (goes_step (sign s.Star c) (goes_mark (goes_step (lexeme (t.Name x) d) goes_end)))
head_goes (sp_async {b = b} e) = goes_step (keyword k.Async b) (goes_step (keyword k.Function false) goes_end)
head_goes (sp_async_named {x = x} {b = b} {c = c} e i) = goes_step (keyword k.Async b) (goes_step (keyword k.Function false) (goes_mark (goes_step (lexeme (t.Name x) c) goes_end)))
