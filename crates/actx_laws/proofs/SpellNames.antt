-- Names, reserved words and fixed keys: which token is printed for them, and its form.
use Rattle.std.proofs.Common.{◌≡◌, ℕ, ◌+◌, ◌-◌, ◌/◌, ◌%◌, ◌<◌, Bool, true, false, ◌&&◌, ◌||◌, List, [], ◌∷◌, Some, refl, sym, ap, ◌∙◌, subst, arith, true≢false, rules, nat_lt, nat_le, IsTrue, All, ◌==◌, if◌then◌else◌}
use Rattle.std.proofs.lemmas.Bool.Decides.{nat_tests}
use Rattle.std.proofs.lemmas.List.Elements.{All-nil, All-cons, All-append, All-head, All-tail}
use Rattle.std.specs.Cmp.Lexicographic.{pointwise}
use Rattle.actx_grammar.specs.declared.token.Keyword.{Keyword}
use Rattle.actx_grammar.specs.declared.token.Keyword.TheVariants as k
use Rattle.actx_grammar.specs.declared.token.TokenKind.{TokenKind}
use Rattle.actx_grammar.specs.declared.token.TokenKind.TheVariants as t
use Rattle.actx_grammar.specs.Names.{word_of, key_of}
use Rattle.actx_grammar.specs.Words.{keyword_text, keywords, is_name_start, is_name_part, IsName, units_of, word_units, HasForm}
use Rattle.actx_grammar.specs.Spell.{word_among, word_token}
use Rattle.std.specs.Cmp.Lexicographic.{pointwise, same_text}
use Rattle.ucd_table.specs.Rows.{Range, in_ranges}
use Rattle.ucd_derived.specs.XidStartRanges.{xid_start_ranges}
use Rattle.ucd_derived.specs.XidContinueRanges.{xid_continue_ranges}
use Rattle.unicode_ident.specs.Ident.{is_xid_start, is_xid_continue}
use Rattle.unicode_ident.proofs.IdentLemmas.{is_xid_start-ascii, is_xid_continue-ascii}
use Rattle.std.specs.Char.{is_ascii_alphabetic, is_ascii_alphanumeric}

-- WORDS BEHIND A DOT
word_found : (w : Keyword) (ws : List Keyword) (x : List ℕ) (b : Bool) → pointwise ◌==◌ (keyword_text w) x ≡ b → word_of (word_among ws x) ≡ Some x → word_of (if b then t.Keyword w else word_among ws x) ≡ Some x
word_found w ws x true q h = ap Some (same_text (keyword_text w) x (sym q))
word_found w ws x false q h = h

words_again : (ws : List Keyword) (x : List ℕ) → word_of (word_among ws x) ≡ Some x
words_again [] x = refl
words_again (w ∷ ws) x = word_found w ws x (pointwise ◌==◌ (keyword_text w) x) refl (words_again ws x)

pub word_again : (x : List ℕ) → word_of (word_token x) ≡ Some x
word_again x = words_again keywords x

word_kept : (w : Keyword) (u : TokenKind) (b : Bool) → HasForm u → HasForm (if b then t.Keyword w else u)
word_kept w u true h = tt
word_kept w u false h = h

words_formed : (ws : List Keyword) (x : List ℕ) → IsName x → HasForm (word_among ws x)
words_formed [] x h = h
words_formed (w ∷ ws) x h = word_kept w (word_among ws x) (pointwise ◌==◌ (keyword_text w) x) (words_formed ws x h)

keyword_again : (w : Keyword) → word_token (keyword_text w) ≡ t.Keyword w
keyword_again k.Async = refl
keyword_again _ = refl

pub word_formed : (u : TokenKind) (x : List ℕ) → word_of u ≡ Some x → HasForm u → HasForm (word_token x)
word_formed (t.Name y) x q h = let e : y ≡ x = cc in words_formed keywords x (subst IsName e h)
word_formed (t.Keyword w) x q h = let e : keyword_text w ≡ x = cc in subst (λ z. HasForm (word_token z)) e (subst HasForm (sym (keyword_again w)) tt)
word_formed (t.Number n) x q h = absurd (cc)
word_formed (t.Text n) x q h = absurd (cc)
word_formed (t.Sign n) x q h = absurd (cc)

-- NAMES OF LETTERS AND DIGITS
abbrev plain_start : ℕ → Bool
plain_start c = (c == 36) || (c == 95) || (nat_lt c 128 && is_ascii_alphabetic c)

abbrev plain_part : ℕ → Bool
plain_part c = (c == 36) || (nat_lt c 128 && (is_ascii_alphanumeric c || (c == 95)))

start_below : (a b u v w : Bool) → (w ≡ true → u ≡ v) → (a || b || (w && v)) ≡ true → (a || b || u) ≡ true
start_below true b u v w h q = refl
start_below false true u v w h q = refl
start_below false false u v true h q = h refl ∙ q
start_below false false u v false h q = absurd (true≢false (sym q))

part_below : (a u v w : Bool) → (w ≡ true → u ≡ v) → (a || (w && v)) ≡ true → (a || u) ≡ true
part_below true u v w h q = refl
part_below false u v true h q = h refl ∙ q
part_below false u v false h q = absurd (true≢false (sym q))

ascii : (c : ℕ) → nat_lt c 128 ≡ true → c < 128
ascii c h = grind (arith, nat_tests)

start_passes : (c : ℕ) → plain_start c ≡ true → IsTrue (is_name_start c)
start_passes c q = start_below (c == 36) (c == 95) (is_xid_start c) (is_ascii_alphabetic c) (nat_lt c 128) (λ h. is_xid_start-ascii c (ascii c h)) q

part_passes : (c : ℕ) → plain_part c ≡ true → IsTrue (is_name_part c)
part_passes c q = part_below (c == 36) (is_xid_continue c) (is_ascii_alphanumeric c || (c == 95)) (nat_lt c 128) (λ h. is_xid_continue-ascii c (ascii c h)) q

abbrev plain_parts : List ℕ → Bool
plain_parts [] = true
plain_parts (c ∷ cs) = plain_part c && plain_parts cs

both_true : (a b : Bool) → (a && b) ≡ true → (a ≡ true) × (b ≡ true)
both_true true b h = (refl, h)
both_true false b h = absurd (true≢false (sym h))

parts_pass : (cs : List ℕ) → plain_parts cs ≡ true → All (λ c. IsTrue (is_name_part c)) cs
parts_pass [] q = All-nil (λ c. IsTrue (is_name_part c))
parts_pass (c ∷ cs) q =
    let h = both_true (plain_part c) (plain_parts cs) q in
    All-cons (λ d. IsTrue (is_name_part d)) c cs (part_passes c h.0) (parts_pass cs h.1)

free_word : (x : List ℕ) (w : Keyword) → word_token x ≡ t.Name x → x ≡ keyword_text w → ⊥
free_word x w q e = let h : t.Name x ≡ t.Keyword w = sym q ∙ ap word_token e ∙ keyword_again w in absurd (cc)

-- a word of letters and digits that is not reserved is a name
pub plain_name : (c : ℕ) (cs : List ℕ) → plain_start c ≡ true → plain_parts cs ≡ true → word_token (c ∷ cs) ≡ t.Name (c ∷ cs) → IsName (c ∷ cs)
plain_name c cs p q r = record { first = c; more = cs; is = refl; starts = start_passes c p; goes_on = parts_pass cs q; free = λ w e. free_word (c ∷ cs) w r e }

-- FIXED KEYS AS TEXTS
abbrev ends_within : List Range → Bool
ends_within [] = true
ends_within (r ∷ rs) = nat_lt r.1 1114112 && ends_within rs

range_small : (r : Range) (c : ℕ) (b : Bool) → nat_lt r.1 1114112 ≡ true → (b ≡ true → c < 1114112) → ((nat_le r.0 c && nat_le c r.1) || b) ≡ true → c < 1114112
range_small r c b h f q = pick (nat_le r.0 c) (nat_le c r.1) refl q
  where
    end_small : nat_le c r.1 ≡ true → c < 1114112
    end_small i = grind (arith, nat_tests)

    pick : (u v : Bool) → nat_le c r.1 ≡ v → ((u && v) || b) ≡ true → c < 1114112
    pick true true i j = end_small i
    pick true false i j = f j
    pick false v i j = f j

ranges_small : (rs : List Range) (c : ℕ) → ends_within rs ≡ true → in_ranges rs c ≡ true → c < 1114112
unfolding in_ranges
ranges_small [] c h q = absurd (true≢false (sym q))
ranges_small (r ∷ rs) c h q =
    let i = both_true (nat_lt r.1 1114112) (ends_within rs) h in
    range_small r c (in_ranges rs c) i.0 (λ j. ranges_small rs c i.1 j) q

start_in : (c : ℕ) → is_xid_start c ≡ true → c < 1114112
unfolding is_xid_start xid_start_ranges
start_in c h = ranges_small xid_start_ranges c refl h

part_in : (c : ℕ) → is_xid_continue c ≡ true → c < 1114112
unfolding is_xid_continue xid_continue_ranges
part_in c h = ranges_small xid_continue_ranges c refl h

one_of_three : (c : ℕ) (b : Bool) → (b ≡ true → c < 1114112) → ((c == 36) || (c == 95) || b) ≡ true → c < 1114112
one_of_three c b f q = pick (c == 36) (c == 95) refl refl q
  where
    pick : (u v : Bool) → (c == 36) ≡ u → (c == 95) ≡ v → (u || v || b) ≡ true → c < 1114112
    pick true v i j k = grind (arith, nat_tests)
    pick false true i j k = grind (arith, nat_tests)
    pick false false i j k = f k

one_of_two : (c : ℕ) (b : Bool) → (b ≡ true → c < 1114112) → ((c == 36) || b) ≡ true → c < 1114112
one_of_two c b f q = pick (c == 36) refl q
  where
    pick : (u : Bool) → (c == 36) ≡ u → (u || b) ≡ true → c < 1114112
    pick true i j = grind (arith, nat_tests)
    pick false i j = f j

start_small : (c : ℕ) → IsTrue (is_name_start c) → c < 1114112
start_small c h = one_of_three c (is_xid_start c) (start_in c) h

part_small : (c : ℕ) → IsTrue (is_name_part c) → c < 1114112
part_small c h = one_of_two c (is_xid_continue c) (part_in c) h

parts_small : (cs : List ℕ) → All (λ c. IsTrue (is_name_part c)) cs → All (λ c. c < 1114112) cs
parts_small [] a = All-nil (λ c. c < 1114112)
parts_small (c ∷ cs) a = All-cons (λ d. d < 1114112) c cs (part_small c (All-head (λ d. IsTrue (is_name_part d)) c cs a)) (parts_small cs (All-tail (λ d. IsTrue (is_name_part d)) c cs a))

name_small : (x : List ℕ) → IsName x → All (λ c. c < 1114112) x
name_small x n = subst (All (λ c. c < 1114112)) (sym n.is) (All-cons (λ c. c < 1114112) n.first n.more (start_small n.first n.starts) (parts_small n.more n.goes_on))

abbrev IsUnit : ℕ → Type 0
IsUnit u = u < 65536

units_small : (c : ℕ) → c < 1114112 → All IsUnit (units_of c)
units_small c h = pick (nat_lt c 65536) refl
  where
    one_unit : nat_lt c 65536 ≡ true → c < 65536
    one_unit q = grind (arith, nat_tests)

    pick : (b : Bool) → nat_lt c 65536 ≡ b → All IsUnit (if b then c ∷ [] else (55296 + (c - 65536) / 1024) ∷ (56320 + (c - 65536) % 1024) ∷ [])
    pick true q = All-cons IsUnit c [] (one_unit q) (All-nil IsUnit)
    pick false q = All-cons IsUnit (55296 + (c - 65536) / 1024) ((56320 + (c - 65536) % 1024) ∷ []) (omega arith) (All-cons IsUnit (56320 + (c - 65536) % 1024) [] (omega arith) (All-nil IsUnit))

word_small : (x : List ℕ) → All (λ c. c < 1114112) x → All IsUnit (word_units x)
word_small [] a = All-nil IsUnit
word_small (c ∷ x) a = All-append IsUnit (units_of c) (word_units x) (units_small c (All-head (λ d. d < 1114112) c x a)) (word_small x (All-tail (λ d. d < 1114112) c x a))

keyword_small : (w : Keyword) → All (λ c. c < 1114112) (keyword_text w)
keyword_small k.Async = search rules
keyword_small _ = search rules

-- a fixed key may stand as a text
pub key_formed : (w : TokenKind) (u : List ℕ) → HasForm w → key_of w ≡ Some u → HasForm (t.Text u)
key_formed (t.Name x) u h q = let e : word_units x ≡ u = cc in subst (All IsUnit) e (word_small x (name_small x h))
key_formed (t.Keyword w) u h q = let e : word_units (keyword_text w) ≡ u = cc in subst (All IsUnit) e (word_small (keyword_text w) (keyword_small w))
key_formed (t.Text x) u h q = let e : x ≡ u = cc in subst (All IsUnit) e h
key_formed (t.Number n) u h q = absurd (cc)
key_formed (t.Sign n) u h q = absurd (cc)
