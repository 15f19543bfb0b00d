-- Steps of spelling: a name more at the end, a clause before others.
use Rattle.std.proofs.Common.{◌≡◌, ◌≢◌, ℕ, ◌==◌, Bool, true, false, List, [], ◌∷◌, ◌++◌, Option, Some, None, Result, Ok, Err, refl, sym, ◌∙◌, ap}
use Rattle.std.proofs.lemmas.Bool.{cond-false, false_from_ne_true}
use Rattle.std.proofs.lemmas.List.{append-nil}
use Rattle.std.specs.Prelude.{OnOk}
use Rattle.std.specs.Cmp.Lexicographic.{pointwise, same_text}
use Rattle.actx_grammar.specs.declared.token.Keyword.{Keyword}
use Rattle.actx_grammar.specs.declared.token.Keyword.TheVariants as k
use Rattle.actx_grammar.specs.declared.token.Sign.TheVariants as s
use Rattle.actx_grammar.specs.declared.token.TokenKind.{TokenKind}
use Rattle.actx_grammar.specs.declared.token.TokenKind.TheVariants as t
use Rattle.actx_grammar.specs.Spell.{word_among, word_token, spell_more_names, spell_clauses, spell_program}
use Rattle.actx_grammar.specs.Tree.{Clauses, clause, no_clauses, Stmts}
use Rattle.actx_grammar.specs.Words.{keyword_text, keywords}

pub more_names_last : (xs : List (List ℕ)) (x : List ℕ) → spell_more_names (xs ++ x ∷ []) ≡ spell_more_names xs ++ t.Sign s.Comma ∷ t.Name x ∷ []
more_names_last [] x = refl
more_names_last (y ∷ xs) x = ap (λ v. t.Sign s.Comma ∷ t.Name y ∷ v) (more_names_last xs x)

pub one_clause : (n : Option ℕ) (ss : Stmts) (cs : Clauses) → spell_clauses (clause n ss cs) ≡ spell_clauses (clause n ss no_clauses) ++ spell_clauses cs
one_clause None ss cs = ap (λ v. t.Keyword k.Default ∷ t.Sign s.Colon ∷ (v ++ spell_clauses cs)) (sym (append-nil (spell_program ss)))
one_clause (Some n) ss cs = ap (λ v. t.Keyword k.Case ∷ t.Number n ∷ t.Sign s.Colon ∷ (v ++ spell_clauses cs)) (sym (append-nil (spell_program ss)))

-- what holds on an Ok, carried on
pub on_ok : {T E : Type 0} (P Q : Type 0) (r : Result T E) → (P → Q) → OnOk r P → OnOk r Q
on_ok P Q (Ok t) f h = f h
on_ok P Q (Err e) f h = tt
