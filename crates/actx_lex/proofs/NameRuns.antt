-- Words are read to the end of their runs: what the code reads is the one token that begins there.
use Rattle.std.proofs.Common.{◌≡◌, ◌≢◌, inl, inr, ℕ, ◌<◌, ◌≤◌, Bool, true, List, [], ◌∷◌, length, get_or, take, drop, refl, sym, ◌∙◌, ap, subst, arith, IsTrue}
use Rattle.std.specs.Str.Parse.{digits_value}
use Rattle.std.specs.List.{prefix_len, list_all}
use Rattle.std.proofs.lemmas.Bool.{false≢true}
use Rattle.std.proofs.lemmas.List.{length-take, get_or-take}
use Rattle.std.proofs.lemmas.List.Elements.{All-cons, All-tail}
use Rattle.std.proofs.lemmas.List.Sums.{AllPass-from_list_all}
use Rattle.unicode_ident.proofs.Computing.{unicode_ident}
use Rattle.actx_grammar.specs.declared.token.Keyword.{Keyword}
use Rattle.actx_grammar.specs.declared.token.Keyword.TheVariants as k
use Rattle.actx_grammar.specs.declared.token.TokenKind.{TokenKind}
use Rattle.actx_grammar.specs.declared.token.TokenKind.TheVariants as t
use Rattle.actx_grammar.specs.Words.{is_name_start, is_name_part, keyword_text, IsName}
use Rattle.actx_lex.specs.Characters.{AllPass}
use Rattle.actx_lex.specs.Lexical.{IsToken, name_token, keyword_token, IsLexeme, MayFollow}
use Rattle.actx_lex.specs.Lexeme.{Begins}
use Rattle.actx_lex.proofs.Classes.{word, class_of, word_class, start_part, is_letter, letter_start}
use Rattle.actx_lex.proofs.Tokens.{kind_class, token_class, refused_class, Reading, r_name, r_keyword, r_number, r_text, r_sign, reading}
use Rattle.actx_lex.proofs.Runs.{run_passes, run_some, longest_run}

-- WORDS
keyword_letters : (q : Keyword) → list_all is_letter (keyword_text q) ≡ true
keyword_letters k.Async = refl
keyword_letters k.Await = refl
keyword_letters k.Break = refl
keyword_letters k.Case = refl
keyword_letters k.Catch = refl
keyword_letters k.Class = refl
keyword_letters k.Const = refl
keyword_letters k.Continue = refl
keyword_letters k.Debugger = refl
keyword_letters k.Default = refl
keyword_letters k.Delete = refl
keyword_letters k.Do = refl
keyword_letters k.Else = refl
keyword_letters k.Enum = refl
keyword_letters k.Export = refl
keyword_letters k.Extends = refl
keyword_letters k.False = refl
keyword_letters k.Finally = refl
keyword_letters k.For = refl
keyword_letters k.Function = refl
keyword_letters k.If = refl
keyword_letters k.Implements = refl
keyword_letters k.Import = refl
keyword_letters k.In = refl
keyword_letters k.Instanceof = refl
keyword_letters k.Interface = refl
keyword_letters k.Let = refl
keyword_letters k.New = refl
keyword_letters k.Null = refl
keyword_letters k.Package = refl
keyword_letters k.Private = refl
keyword_letters k.Protected = refl
keyword_letters k.Public = refl
keyword_letters k.Return = refl
keyword_letters k.Static = refl
keyword_letters k.Super = refl
keyword_letters k.Switch = refl
keyword_letters k.This = refl
keyword_letters k.Throw = refl
keyword_letters k.True = refl
keyword_letters k.Try = refl
keyword_letters k.Typeof = refl
keyword_letters k.Var = refl
keyword_letters k.Void = refl
keyword_letters k.While = refl
keyword_letters k.With = refl
keyword_letters k.Yield = refl

all_letters : (w : List ℕ) → AllPass is_letter w → AllPass is_name_part w
all_letters w h = λ k d lt. start_part (get_or w k d) (letter_start (get_or w k d) (h k d lt))

pub keyword_parts : (q : Keyword) → AllPass is_name_part (keyword_text q)
keyword_parts q = all_letters (keyword_text q) (AllPass-from_list_all is_letter (keyword_text q) (keyword_letters q))

pub name_parts : (x : List ℕ) → IsName x → AllPass is_name_part x
name_parts x h = subst (AllPass is_name_part) (sym h.is) (All-cons (λ c. IsTrue (is_name_part c)) h.first h.more (start_part h.first h.starts) h.goes_on)

word_reading : (j : TokenKind) (v : List ℕ) → kind_class j ≡ word → Reading j v → AllPass is_name_part v
word_reading j v e (r_name p h) = name_parts v h
word_reading j v e (r_keyword q p h) = subst (AllPass is_name_part) (sym h) (keyword_parts q)
word_reading j v e (r_number p h l) = let f : kind_class (t.Number (digits_value 10 v)) ≡ word = ap kind_class (sym p) ∙ e in cc
word_reading j v e (r_text q cs u p h g l) = let f : kind_class (t.Text u) ≡ word = ap kind_class (sym p) ∙ e in cc
word_reading j v e (r_sign s p h) = let f : kind_class (t.Sign s) ≡ word = ap kind_class (sym p) ∙ e in cc

pub word_lexeme : (v r : List ℕ) → IsLexeme v r → class_of (get_or v 0 0) ≡ word → AllPass is_name_part v
word_lexeme v r (inl (j, h)) e = word_reading j v (sym (token_class h) ∙ e) (reading h)
word_lexeme v r (inr (h, n)) e = let f = refused_class v h in cc

word_follows : (fresh : Bool) (j : TokenKind) (rest : List ℕ) → kind_class j ≡ word → MayFollow fresh j rest
word_follows fresh (t.Name x) rest e = tt
word_follows fresh (t.Keyword q) rest e = tt
word_follows fresh (t.Number n) rest e = cc
word_follows fresh (t.Text u) rest e = cc
word_follows fresh (t.Sign s) rest e = cc

start_some : (text : List ℕ) → IsTrue (is_name_start (get_or text 0 0)) → 0 < length text
unfolding unicode_ident
start_some [] h = absurd (false≢true h)
start_some (c ∷ cs) h = omega arith

word_begins : (fresh : Bool) (text : List ℕ) (n : ℕ) (j : TokenKind) → IsTrue (is_name_start (get_or text 0 0)) → n ≡ prefix_len is_name_part text → n ≤ length text → kind_class j ≡ word → IsToken j (take n text) → Begins fresh text j n
word_begins fresh text n j start e fits k h =
    let pos : 0 < n = run_some is_name_part text n (start_part (get_or text 0 0) start) e (start_some text start) in
    record {
      fits = fits;
      token = h;
      longest = longest_run is_name_part text n word e fits pos (word_class (get_or text 0 0) start) word_lexeme;
      follows = word_follows fresh j (drop n text) k;
    }

-- the run is a reserved word
pub keyword_begins : (fresh : Bool) (text : List ℕ) (n : ℕ) (q : Keyword) → IsTrue (is_name_start (get_or text 0 0)) → n ≡ prefix_len is_name_part text → n ≤ length text → take n text ≡ keyword_text q → Begins fresh text (t.Keyword q) n
keyword_begins fresh text n q start e fits h = word_begins fresh text n (t.Keyword q) start e fits refl (subst (IsToken (t.Keyword q)) (sym h) (keyword_token q))

first_split : (w : List ℕ) → 0 < length w → w ≡ get_or w 0 0 ∷ drop 1 w
first_split [] h = absurd (omega arith)
first_split (c ∷ cs) h = refl

-- the run is a name
pub run_name : (text : List ℕ) (n : ℕ) → IsTrue (is_name_start (get_or text 0 0)) → n ≡ prefix_len is_name_part text → n ≤ length text → ((q : Keyword) → take n text ≢ keyword_text q) → IsName (take n text)
run_name text n start e fits free =
    let pos : 0 < n = run_some is_name_part text n (start_part (get_or text 0 0) start) e (start_some text start) in
    let split = first_split (take n text) (omega (arith, length-take n text)) in
    record {
      first = get_or (take n text) 0 0;
      more = drop 1 (take n text);
      is = split;
      starts = subst (λ v. IsTrue (is_name_start v)) (sym (get_or-take n text 0 0 pos)) start;
      goes_on = All-tail (λ c. IsTrue (is_name_part c)) (get_or (take n text) 0 0) (drop 1 (take n text)) (subst (AllPass is_name_part) split (run_passes is_name_part text n e fits));
      free = free;
    }

pub name_begins : (fresh : Bool) (text : List ℕ) (n : ℕ) → IsTrue (is_name_start (get_or text 0 0)) → n ≡ prefix_len is_name_part text → n ≤ length text → ((q : Keyword) → take n text ≢ keyword_text q) → Begins fresh text (t.Name (take n text)) n
name_begins fresh text n start e fits free = word_begins fresh text n (t.Name (take n text)) start e fits refl (name_token (run_name text n start e fits free))
