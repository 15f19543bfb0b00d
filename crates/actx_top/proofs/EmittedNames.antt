-- A name with p_ before it is a name, and neither reserved nor built in.
use Rattle.std.proofs.Common.{◌≡◌, ◌≢◌, ℕ, List, [], ◌∷◌, Bool, true, false, refl, sym, ap, ◌∙◌, subst, true≢false}
use Rattle.std.specs.Prelude.{◌&&◌, ◌==◌, IsTrue, All, codes}
use Rattle.std.proofs.lemmas.List.Elements.{All-nil, All-cons, All-head, All-tail}
use Rattle.actx_grammar.specs.declared.side.Side.TheVariants.{Source, Plain}
use Rattle.actx_grammar.specs.declared.token.Keyword.{Keyword}
use Rattle.actx_grammar.specs.declared.token.Keyword.TheVariants as k
use Rattle.actx_grammar.specs.Words.{IsName, is_name_part, is_name_start, keyword_text}
use Rattle.actx_grammar.specs.Names.{IsBinding, IsReference}
use Rattle.actx_laws.proofs.ViableTests.{binding_is}
use Rattle.actx_lex.proofs.Classes.{letter_start, start_part}
use Rattle.actx_rules.specs.Low.{p_, names_renamed}

-- no reserved word begins with p_
abbrev is_renamed : List ℕ → Bool
is_renamed (c ∷ d ∷ cs) = (c == 112) && (d == 95)
is_renamed _ = false

never_renamed : (w : Keyword) → is_renamed (keyword_text w) ≡ false
never_renamed k.Async = refl
never_renamed _ = refl

not_reserved : (x : List ℕ) (w : Keyword) → p_ x ≢ keyword_text w
not_reserved x w e = true≢false (ap is_renamed e ∙ never_renamed w)

pub name_renamed : (x : List ℕ) → IsName x → IsName (p_ x)
name_renamed x n =
    let own : All (λ c. IsTrue (is_name_part c)) x = subst (All (λ c. IsTrue (is_name_part c))) (sym n.is) (All-cons (λ c. IsTrue (is_name_part c)) n.first n.more (start_part n.first n.starts) n.goes_on) in
    record { first = 112; more = 95 ∷ x; is = refl; starts = letter_start 112 refl; goes_on = All-cons (λ c. IsTrue (is_name_part c)) 95 x (start_part 95 (letter_start 95 refl)) own; free = not_reserved x }

pub binding_renamed : (x : List ℕ) → IsBinding Source x → IsBinding Plain (p_ x)
binding_renamed x b = binding_is Plain (p_ x) (name_renamed x b.name) refl

pub reference_renamed : (x : List ℕ) → IsReference Source x → IsReference Plain (p_ x)
reference_renamed x r = let b = binding_is Plain (p_ x) (name_renamed x r.name) refl in record { name = b.name; own = b.own; not_undefined = λ e. true≢false (ap is_renamed e) }

pub bindings_renamed : (xs : List (List ℕ)) → All (IsBinding Source) xs → All (IsBinding Plain) (names_renamed xs)
bindings_renamed [] h = All-nil (IsBinding Plain)
bindings_renamed (x ∷ xs) h = All-cons (IsBinding Plain) (p_ x) (names_renamed xs) (binding_renamed x (All-head (IsBinding Source) x xs h)) (bindings_renamed xs (All-tail (IsBinding Source) x xs h))
