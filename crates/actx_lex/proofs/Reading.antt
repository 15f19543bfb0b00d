-- A reading goes on by a gap or a token, and stops where neither begins.
use Rattle.std.proofs.Common.{◌≡◌, ◌<◌, ℕ, Bool, true, false, cond, List, [], ◌∷◌, ◌++◌, length, take, drop, refl, sym, ap, subst, Result, Ok, Err, IsErrAnd, IfErr}
use Rattle.std.proofs.lemmas.List.{append-nil, take-append-drop}
use Rattle.actx_grammar.specs.declared.token.TokenKind.{TokenKind}
use Rattle.actx_lex.specs.declared.token.Token.{Token}
use Rattle.actx_lex.specs.declared.lex.LexFault.{LexFault}
use Rattle.actx_lex.specs.declared.lex.LexFault.TheVariants as fault
use Rattle.actx_lex.specs.Lexical.{Place, start, is_fresh, passed, behind, token_at, Reads, here, blank, comment, token, begins_number, kinds_of}
use Rattle.actx_lex.specs.Lexeme.{Begins, NoToken, NoTokenAt, fault_at, Gap, blank as gap_blank, comment as gap_comment, IsGap, NoGap, CutFault}
use Rattle.actx_lex.proofs.OneCut.{nothing_from}

-- one reading behind another
join : {p q r : Place} {cs mid left : List ℕ} {ts us : List Token} → Reads p cs ts q mid → Reads q mid us r left → Reads p cs (ts ++ us) r left
join here b = b
join (blank h a) b = blank h (join a b)
join (comment h a) b = comment h (join a b)
join (token h l f a) b = token h l f (join a b)

one_gap : {w rest : List ℕ} (p : Place) → Gap w rest → Reads p (w ++ rest) [] (passed p w) rest
one_gap p (gap_blank h) = blank h here
one_gap p (gap_comment h) = comment h here

pub read_gap : {chars rest : List ℕ} {ts : List Token} {p : Place} (n : ℕ) → IsGap rest n → Reads start chars ts p rest → Reads start chars ts (passed p (take n rest)) (drop n rest)
read_gap {chars} {rest} {ts} {p} n g a =
    subst (λ us. Reads start chars us (passed p (take n rest)) (drop n rest)) (append-nil ts)
    (join a (subst (λ v. Reads p v [] (passed p (take n rest)) (drop n rest)) (take-append-drop n rest) (one_gap p g.gap)))

pub read_token : {chars rest : List ℕ} {ts : List Token} {p : Place} (k : TokenKind) (n : ℕ) → Begins (is_fresh p) rest k n → Reads start chars ts p rest → Reads start chars (ts ++ token_at k p ∷ []) (behind p (take n rest)) (drop n rest)
read_token {chars} {rest} {ts} {p} k n b a =
    join a (subst (λ v. Reads p v (token_at k p ∷ []) (behind p (take n rest)) (drop n rest)) (take-append-drop n rest) (token b.token b.longest b.follows here))

pub kinds_push : (ts : List Token) (t : Token) → kinds_of (ts ++ t ∷ []) ≡ kinds_of ts ++ t.kind ∷ []
kinds_push [] t = refl
kinds_push (u ∷ ts) t = ap (λ ks. u.kind ∷ ks) (kinds_push ts t)

-- FAULTS
no_token_at : (fresh : Bool) (text : List ℕ) (at : ℕ) (b : Bool) → begins_number text ≡ b → NoToken fresh text → NoTokenAt fresh text at (cond b (fault.BadNumber at) (fault.BadToken at))
no_token_at fresh text at true e n = (n, e, refl)
no_token_at fresh text at false e n = (n, e, refl)

pub fault_says : (fresh : Bool) (text : List ℕ) (at : ℕ) → NoToken fresh text → NoTokenAt fresh text at (fault_at text at)
fault_says fresh text at n = no_token_at fresh text at (begins_number text) refl n

pub cut_fault : (chars rest : List ℕ) (ts : List Token) (p : Place) (e : LexFault) → 0 < length rest → Reads start chars ts p rest → NoGap rest → NoTokenAt (is_fresh p) rest p.at e → CutFault chars e
cut_fault chars rest ts p (fault.BadToken n) some a g h = record { tokens = ts; place = p; left = rest; reads = a; at = h.2; nothing = nothing_from p rest some (record { no_gap = g; no_token = h.0 }); kind = h.1 }
cut_fault chars rest ts p (fault.BadNumber n) some a g h = record { tokens = ts; place = p; left = rest; reads = a; at = h.2; nothing = nothing_from p rest some (record { no_gap = g; no_token = h.0 }); kind = h.1 }
cut_fault chars rest ts p fault.NoMemory some a g h = tt
cut_fault chars rest ts p (fault.NotUtf8 n) some a g h = h
cut_fault chars rest ts p fault.TooLong some a g h = h

-- an error that is handed on
pub err_says : {T E : Type 0} (r : Result T E) (x : E) (P : E → Type 0) → IsErrAnd r (λ e. e ≡ x) → P x → IfErr r P
err_says (Ok v) x P h p = absurd h
err_says (Err e) x P h p = subst P (sym h) p

pub err_same : {T E : Type 0} (r : Result T E) (x y : E) → IsErrAnd r (λ e. e ≡ x) → r ≡ Err y → x ≡ y
err_same r x y h e = sym (subst (λ v. IsErrAnd v (λ e. e ≡ x)) e h)
