-- Characters are cut in one way: a gap or a token at each place, and no two ends.
use Rattle.std.proofs.Common.{◌≡◌, ℕ, ◌<◌, Bool, false, List, [], ◌∷◌, ◌++◌, length, get_or, take, drop, refl, sym, ◌∙◌, ap, subst, arith, eqb}
use Rattle.std.proofs.lemmas.Bool.{both_ways, false_from_ne_true}
use Rattle.std.proofs.lemmas.List.{length-append, take_at, drop_at, take-append-drop, get_or-take}
use Rattle.std.proofs.lemmas.Str.{encodes_same}
use Rattle.actx_grammar.specs.declared.token.TokenKind.{TokenKind}
use Rattle.actx_grammar.specs.Words.{sign_text}
use Rattle.actx_lex.specs.declared.token.Token.{Token}
use Rattle.actx_lex.specs.Lexical.{IsToken, IsLongest, MayFollow, Place, is_fresh, passed, behind, token_at, Reads, here, blank, comment, token, Nothing, IsText, OneCut, NotStuck, OneStop, begins_number}
use Rattle.actx_lex.specs.Lexeme.{Begins, Gap, blank as gap_blank, comment as gap_comment, NoGap, NoToken}
use Rattle.actx_lex.proofs.Classes.{mark, class_of, is_blank, blank_class}
use Rattle.actx_lex.proofs.Tokens.{reading, mark_reading}
use Rattle.actx_lex.proofs.Beginnings.{begins_some, begins_class, no_blank_kind, begins_once}
use Rattle.actx_lex.proofs.Commentary.{GapStart, with_blank, with_line, with_block, gap_start, gap_some, one_gap}
use Rattle.actx_lex.proofs.SignTexts.{no_slash}

-- READING BY GAPS AND TOKENS
pub data Path : Place → List ℕ → List Token → Place → List ℕ → Type 0 where
  stop : {p : Place} {cs : List ℕ} → Path p cs [] p cs
  pass : {p r : Place} {cs left : List ℕ} {ts : List Token} (w : List ℕ) → Gap w cs → Path (passed p w) cs ts r left → Path p (w ++ cs) ts r left
  meet : {p r : Place} {k : TokenKind} {cs left : List ℕ} {ts : List Token} (w : List ℕ) → Begins (is_fresh p) (w ++ cs) k (length w) → Path (behind p w) cs ts r left → Path p (w ++ cs) (token_at k p ∷ ts) r left

pub token_begins : (fresh : Bool) {k : TokenKind} (w rest : List ℕ) → IsToken k w → IsLongest w rest → MayFollow fresh k rest → Begins fresh (w ++ rest) k (length w)
token_begins fresh {k} w rest h l f =
    let front = take_at w rest (length w) refl in
    let back = drop_at w rest (length w) refl in
    record {
      fits = omega (arith, length-append w rest);
      token = subst (IsToken k) (sym front) h;
      longest = subst (λ v. IsLongest v (drop (length w) (w ++ rest))) (sym front) (subst (IsLongest w) (sym back) l);
      follows = subst (MayFollow fresh k) (sym back) f;
    }

pub path_of : {p r : Place} {cs left : List ℕ} {ts : List Token} → Reads p cs ts r left → Path p cs ts r left
path_of here = stop
path_of (blank {c} h a) = pass (c ∷ []) (gap_blank h) (path_of a)
path_of (comment {w} h a) = pass w (gap_comment h) (path_of a)
path_of (token {p} {w} {cs} h l f a) = meet w (token_begins (is_fresh p) w cs h l f) (path_of a)

-- a place where nothing more is read
pub record Final (p : Place) (cs : List ℕ) : Type 0 where
  pub no_gap : NoGap cs
  pub no_token : NoToken (is_fresh p) cs

pub record Agree (ts us : List Token) (p q : Place) (left right : List ℕ) : Type 0 where
  pub place : p ≡ q
  pub tokens : ts ≡ us
  pub rest : left ≡ right

-- a gap begins no token
slash_token : (text : List ℕ) (fresh : Bool) (k : TokenKind) (n : ℕ) → get_or text 0 0 ≡ 47 → Begins fresh text k n → ⊥
slash_token text fresh k n e b =
    let class : class_of (get_or text 0 0) ≡ mark = ap class_of e in
    let r = mark_reading k (take n text) (sym (begins_class fresh text k n b) ∙ class) (reading b.token) in
    let pos = begins_some fresh text k n b in
    let first : get_or (take n text) 0 0 ≡ 47 = get_or-take n text 0 0 pos ∙ e in
    both_ways (eqb (get_or (sign_text r.0) 0 0) 47) (no_slash r.0) (ap (λ v. eqb v 47) (ap (λ v. get_or v 0 0) (sym r.2) ∙ first))

start_token : (text : List ℕ) (fresh : Bool) (k : TokenKind) (n : ℕ) → GapStart text → Begins fresh text k n → ⊥
start_token text fresh k n (with_blank h) b = no_blank_kind k (sym (begins_class fresh text k n b) ∙ blank_class (get_or text 0 0) h)
start_token text fresh k n (with_line e f) b = slash_token text fresh k n e b
start_token text fresh k n (with_block e f i h) b = slash_token text fresh k n e b

gap_token : (w v x y : List ℕ) (fresh : Bool) (k : TokenKind) (n : ℕ) → w ++ x ≡ v ++ y → Gap w x → Begins fresh (v ++ y) k n → ⊥
gap_token w v x y fresh k n e g b = start_token (w ++ x) fresh k n (gap_start g) (subst (λ t. Begins fresh t k n) (sym e) b)

same_cut : (w v x y : List ℕ) → length w ≡ length v → w ++ x ≡ v ++ y → (w ≡ v) × (x ≡ y)
same_cut w v x y e f = (
  sym (take_at w x (length w) refl) ∙ ap (take (length w)) f ∙ take_at v y (length w) (sym e),
  sym (drop_at w x (length w) refl) ∙ ap (drop (length w)) f ∙ drop_at v y (length w) (sym e),
)

-- ONE CUT
more_same : (p : Place) {k j : TokenKind} {ts us : List Token} → k ≡ j → ts ≡ us → token_at k p ∷ ts ≡ token_at j p ∷ us
more_same p {k} {j} {ts} {us} e f = ap (λ i. token_at i p ∷ ts) e ∙ ap (λ v. token_at j p ∷ v) f

passed_same : (p : Place) {r : Place} {cs left : List ℕ} {ts : List Token} (w v : List ℕ) → w ≡ v → Path (passed p v) cs ts r left → Path (passed p w) cs ts r left
passed_same p {r} {cs} {left} {ts} w v e a = subst (λ u. Path (passed p u) cs ts r left) (sym e) a

behind_same : (p : Place) {r : Place} {cs left : List ℕ} {ts : List Token} (w v : List ℕ) → w ≡ v → Path (behind p v) cs ts r left → Path (behind p w) cs ts r left
behind_same p {r} {cs} {left} {ts} w v e a = subst (λ u. Path (behind p u) cs ts r left) (sym e) a

pub paths_once : {p r q : Place} {cs ds left right : List ℕ} {ts us : List Token} → cs ≡ ds → Final r left → Final q right → Path p cs ts r left → Path p ds us q right → Agree ts us r q left right
paths_once e f g stop stop = record { place = refl; tokens = refl; rest = e }
paths_once e f g stop (pass {cs = x} w h b) = absurd (f.no_gap w x e h)
paths_once {p} e f g stop (meet {k} {cs = x} w h b) = absurd (f.no_token k (length w) (subst (λ t. Begins (is_fresh p) t k (length w)) (sym e) h))
paths_once e f g (pass {cs = x} w h a) stop = absurd (g.no_gap w x (sym e) h)
paths_once {p} e f g (pass {cs = x} w h a) (pass {cs = y} v i b) =
    let o = one_gap w v x y e h i in
    paths_once o.1 f g a (passed_same p w v o.0 b)
paths_once {p} e f g (pass {cs = x} w h a) (meet {k} {cs = y} v i b) = absurd (gap_token w v x y (is_fresh p) k (length v) e h i)
paths_once {p} e f g (meet {k} {cs = x} w h a) stop = absurd (g.no_token k (length w) (subst (λ t. Begins (is_fresh p) t k (length w)) e h))
paths_once {p} e f g (meet {k} {cs = x} w h a) (pass {cs = y} v i b) = absurd (gap_token v w y x (is_fresh p) k (length w) (sym e) i h)
paths_once {p} e f g (meet {k} {cs = x} w h a) (meet {k = j} {cs = y} v i b) =
    let o = begins_once (v ++ y) k j (length w) (length v) (subst (λ t. Begins (is_fresh p) t k (length w)) e h) i in
    let s = same_cut w v x y o.1 e in
    let r = paths_once s.1 f g a (behind_same p w v s.0 b) in
    record { place = r.place; tokens = more_same p o.0 r.tokens; rest = r.rest }

nothing_final : (p : Place) (cs : List ℕ) → Nothing p cs → Final p cs
nothing_final p cs n = record {
  no_gap = λ w rest e g. of_gap w rest e g;
  no_token = λ k m b. n.no_token k (take m cs) (drop m cs) (sym (take-append-drop m cs)) b.token b.longest b.follows;
}
  where
    of_gap : NoGap cs
    of_gap w rest e (gap_blank {c} h) = both_ways (is_blank c) (n.no_blank c rest e) h
    of_gap w rest e (gap_comment h) = n.no_comment w rest e h

end_final : (p : Place) → Final p []
end_final p = record {
  no_gap = λ w rest e g. let some = gap_some g in omega (arith, ap length e, length-append w rest);
  no_token = λ k n b. let some = begins_some (is_fresh p) [] k n b in let fits = b.fits in omega arith;
}

pub nothing_from : (p : Place) (cs : List ℕ) → 0 < length cs → Final p cs → Nothing p cs
nothing_from p cs some f = record {
  more = λ e. omega (arith, ap length e);
  no_blank = λ c rest e. no_blank_of c rest e;
  no_comment = λ w rest e h. f.no_gap w rest e (gap_comment h);
  no_token = λ k w rest e h l m. f.no_token k (length w) (subst (λ t. Begins (is_fresh p) t k (length w)) (sym e) (token_begins (is_fresh p) w rest h l m));
}
  where
    no_blank_of : (c : ℕ) (rest : List ℕ) → cs ≡ c ∷ rest → is_blank c ≡ false
    no_blank_of c rest e = false_from_ne_true (is_blank c) (λ h. f.no_gap (c ∷ []) rest e (gap_blank h))

same_chars : {text cs ds : List ℕ} → IsText text cs → IsText text ds → cs ≡ ds
same_chars {text} {cs} {ds} a b = encodes_same cs ds (sym a.encoded ∙ b.encoded)

pub one_cut : OneCut
one_cut text ts us a b = (paths_once (same_chars a.is b.is) (end_final a.last) (end_final b.last) (path_of a.reads) (path_of b.reads)).tokens

pub not_stuck : NotStuck
not_stuck text ts number n a b =
    let r = paths_once (same_chars a.is b.is) (end_final a.last) (nothing_final b.place b.left b.nothing) (path_of a.reads) (path_of b.reads) in
    b.nothing.more (sym r.rest)

pub one_stop : OneStop
one_stop text number other n m a b =
    let r = paths_once (same_chars a.is b.is) (nothing_final a.place a.left a.nothing) (nothing_final b.place b.left b.nothing) (path_of a.reads) (path_of b.reads) in
    (sym a.kind ∙ ap begins_number r.rest ∙ b.kind, sym a.at ∙ ap (λ (p : Place). p.at) r.place ∙ b.at)
