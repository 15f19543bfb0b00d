-- What is printed is read again.
use Rattle.std.proofs.Common.{◌≡◌, ℕ, ◌≤◌, Bool, true, false, cond, ◌||◌, List, [], ◌∷◌, ◌++◌, length, take, drop, refl, sym, ◌∙◌, ap, subst, All, map}
use Rattle.std.specs.Str.{encode_utf8_all}
use Rattle.std.proofs.lemmas.Bool.{cond_both}
use Rattle.std.proofs.lemmas.List.{take_at, drop_at}
use Rattle.std.proofs.lemmas.List.Elements.{All-head, All-tail}
use Rattle.actx_grammar.specs.declared.side.Side.TheVariants.{Plain}
use Rattle.actx_grammar.specs.declared.token.TokenKind.{TokenKind}
use Rattle.actx_grammar.specs.Depth.{depth_program}
use Rattle.actx_grammar.specs.Layout.{ends_line, laid_from, laid}
use Rattle.actx_grammar.specs.Sides.{StmtsOn}
use Rattle.actx_grammar.specs.Spell.{spell_program}
use Rattle.actx_grammar.specs.Tree.{Stmts}
use Rattle.actx_grammar.specs.Words.{HasForm}
use Rattle.actx_grammar.specs.Grammar.{IsSpelled}
use Rattle.actx_laws.proofs.SideLaws.{told_by_the_tree}
use Rattle.actx_laws.proofs.SpellDeeper.{deeper_stmts}
use Rattle.actx_laws.proofs.SpellLaws.{spelled_in_form, shallowest}
use Rattle.actx_lex.specs.declared.token.Token.{Token}
use Rattle.actx_lex.specs.Lexical.{IsToken, IsLongest, MayFollow, Place, start, is_fresh, passed, behind, token_at, Reads, here, blank, token, Tokens}
use Rattle.actx_lex.specs.Lexeme.{Begins}
use Rattle.actx_emit.specs.Layout.{token_text, gap_after, layout}
use Rattle.actx_emit.specs.Reads.{ReadsBack}
use Rattle.actx_lex.specs.Lexemes.{lexemes}
use Rattle.actx_emit.proofs.Beginnings.{IsGap, feed, space, token_at_gap}
use Rattle.actx_emit.proofs.Scalars.{layout_scalars}

-- ONE TOKEN AND A GAP
one_read : {p r : Place} {j : TokenKind} {left : List ℕ} {ts : List Token} (w cs : List ℕ) → Begins (is_fresh p) (w ++ cs) j (length w) → Reads (behind p w) cs ts r left → Reads p (w ++ cs) (token_at j p ∷ ts) r left
one_read {p} {r} {j} {left} {ts} w cs b more =
    let front : take (length w) (w ++ cs) ≡ w = take_at w cs (length w) refl in
    let rest : drop (length w) (w ++ cs) ≡ cs = drop_at w cs (length w) refl in
    token (subst (IsToken j) front b.token) (subst (λ v. IsLongest v cs) front (subst (IsLongest (take (length w) (w ++ cs))) rest b.longest)) (subst (MayFollow (is_fresh p) j) rest b.follows) more

gap_read : {p r : Place} {b : ℕ} {cs left : List ℕ} {ts : List Token} → IsGap b → Reads (passed p (b ∷ [])) cs ts r left → Reads p (b ∷ cs) ts r left
gap_read feed more = blank refl more
gap_read space more = blank refl more

gap_is : (k : TokenKind) → IsGap (gap_after k)
gap_is k = cond_both (ends_line k) 10 32 IsGap (λ _. feed) (λ _. space)

-- ALL TOKENS
-- from a place on the characters are read as tokens that are laid out so
pub record ReadFrom (p : Place) (ts : List TokenKind) : Type 0 where
  pub tokens : List Token
  pub last : Place
  pub reads : Reads p (layout ts) tokens last []
  pub own : lexemes tokens ≡ laid_from p.line_before ts

gap_line : (p : Place) (w : List ℕ) (k : TokenKind) → (passed (behind p w) (gap_after k ∷ [])).line_before ≡ ends_line k
gap_line p w k = cond_both (ends_line k) 10 32 (λ g. (passed (behind p w) (g ∷ [])).line_before ≡ ends_line k) (λ e. sym e) (λ e. sym e)

read_from : (p : Place) (ts : List TokenKind) → All HasForm ts → ReadFrom p ts
read_from p [] h = record { tokens = []; last = passed p (10 ∷ []); reads = gap_read feed here; own = refl }
read_from p (k ∷ []) h =
    record {
      tokens = token_at k p ∷ [];
      last = passed (behind p (token_text k)) (10 ∷ []);
      reads = one_read (token_text k) (10 ∷ []) (token_at_gap (is_fresh p) k [] 10 (All-head HasForm k [] h) feed) (gap_read feed here);
      own = refl;
    }
read_from p (k ∷ j ∷ ts) h =
    let q = passed (behind p (token_text k)) (gap_after k ∷ []) in
    let more = read_from q (j ∷ ts) (All-tail HasForm k (j ∷ ts) h) in
    record {
      tokens = token_at k p ∷ more.tokens;
      last = more.last;
      reads = one_read (token_text k) (gap_after k ∷ layout (j ∷ ts)) (token_at_gap (is_fresh p) k (layout (j ∷ ts)) (gap_after k) (All-head HasForm k (j ∷ ts) h) (gap_is k)) (gap_read (gap_is k) more.reads);
      own = ap (λ v. record { kind = k; line_before = p.line_before } ∷ v) (more.own ∙ ap (λ b. laid_from b (j ∷ ts)) (gap_line p (token_text k) k));
    }

-- PROGRAMS
pub printed_reads_back : (q : Stmts) → StmtsOn Plain q → depth_program q ≤ 32768 → ReadsBack (encode_utf8_all (layout (spell_program q))) q
printed_reads_back q on low =
    let some = (told_by_the_tree Plain q).0 on in
    let form = spelled_in_form Plain _ some.depth q some.tokens some.spelled in
    let own = deeper_stmts (shallowest Plain _ some.depth q some.tokens some.spelled).1 low in
    let read = read_from start (spell_program q) form in
    record {
      tokens = read.tokens;
      cut = record { chars = layout (spell_program q); is = record { scalars = layout_scalars (spell_program q) form; encoded = refl }; last = read.last; reads = read.reads };
      own = read.own;
      spelled = subst (IsSpelled Plain q) (sym read.own) own;
    }
