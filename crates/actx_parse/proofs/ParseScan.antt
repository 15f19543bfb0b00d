-- A run that tells where it stops and the machine's run, which tells why too.
use Rattle.std.proofs.Common.{◌≡◌, ℕ, zero, suc, ◌+◌, ◌≤◌, ◌<◌, List, [], ◌∷◌, length, drop, get_or, Bool, true, false, Option, Some, None, cond, refl, sym, ◌∙◌, ap, subst, arith}
use Rattle.std.specs.Prelude.{take, nat_eq}
use Rattle.std.proofs.lemmas.Bool.Decides.{nat_tests}
use Rattle.actx_grammar.specs.declared.side.Side.{Side}
use Rattle.actx_grammar.specs.declared.side.Side.TheVariants.{Plain}
use Rattle.actx_grammar.specs.Lexemes.{Lexeme}
use Rattle.actx_grammar.specs.Parser.{step, finish, Reason, unexpected, too_deep, too_many, reason, Outcome, parsed, refused, finished, carry, limits, unlisted, unlimited, is_refused, run, parse}
use Rattle.actx_grammar.specs.ParserState.{Limits, Frame, program, in_list, Mode, start, Move, refuse, go}
use Rattle.actx_grammar.specs.Tree.{Stmts, end}
use Rattle.actx_laws.proofs.ParseLooser.{Looser}
use Rattle.actx_laws.proofs.ParseLooserModes.{move_kept}
use Rattle.actx_lex.specs.declared.token.Token.{Token}
use Rattle.actx_lex.specs.Lexemes.{lexeme_of, lexemes}
use Rattle.actx_parse.specs.Scan.{Scanned, found, stopped, at_the_end, moved, scan_on, scan, is_stopped, told}

-- THE MACHINE'S RUN, BY WHAT A TOKEN LEADS TO
-- what follows holds of each such function, so that none of it looks into the machine's
abbrev pub Leads : Type 0
Leads = Mode → List Frame → Lexeme → Move

abbrev Reasons : Type 0
Reasons = Mode → List Frame → Lexeme → Reason

run_on : Leads → Reasons → ℕ → Mode → List Frame → List Lexeme → Outcome
run_on leads why at m s [] = finished at (finish m s)
run_on leads why at m s (t ∷ ts) = carry (leads m s t) (λ n u. run_on leads why (suc at) n u ts) (refused at (why m s t))

carry_same : (v : Move) (f g : Mode → List Frame → Outcome) (o : Outcome) → ((n : Mode) (u : List Frame) → f n u ≡ g n u) → carry v f o ≡ carry v g o
carry_same refuse f g o h = refl
carry_same (go n u) f g o h = h n u

run_as : (side : Side) (at : ℕ) (m : Mode) (s : List Frame) (ts : List Lexeme) → run side at m s ts ≡ run_on (step (limits side) side) (reason side) at m s ts
unfolding run_on
run_as side at m s [] = refl
run_as side at m s (t ∷ ts) =
    carry_same (step (limits side) side m s t) (λ n u. run side (suc at) n u ts) (λ n u. run_on (step (limits side) side) (reason side) (suc at) n u ts) (refused at (reason side m s t)) (λ n u. run_as side (suc at) n u ts)

-- one token of each run
scan_next : (leads : Leads) (at : ℕ) (m : Mode) (s : List Frame) (t : Lexeme) (ts : List Lexeme) (v : Move) → leads m s t ≡ v → scan_on leads at m s (t ∷ ts) ≡ moved v (λ n u. scan_on leads (suc at) n u ts) (stopped at)
unfolding scan_on
scan_next leads at m s t ts v e = ap (λ w. moved w (λ n u. scan_on leads (suc at) n u ts) (stopped at)) e

run_next : (leads : Leads) (why : Reasons) (at : ℕ) (m : Mode) (s : List Frame) (t : Lexeme) (ts : List Lexeme) (v : Move) → leads m s t ≡ v → run_on leads why at m s (t ∷ ts) ≡ carry v (λ n u. run_on leads why (suc at) n u ts) (refused at (why m s t))
unfolding run_on
run_next leads why at m s t ts v e = ap (λ w. carry w (λ n u. run_on leads why (suc at) n u ts) (refused at (why m s t))) e

scan_last : (leads : Leads) (at : ℕ) (m : Mode) (s : List Frame) → scan_on leads at m s [] ≡ at_the_end at (finish m s)
unfolding scan_on
scan_last leads at m s = refl

run_last : (leads : Leads) (why : Reasons) (at : ℕ) (m : Mode) (s : List Frame) → run_on leads why at m s [] ≡ finished at (finish m s)
unfolding run_on
run_last leads why at m s = refl

-- WITHOUT THE REASON
abbrev forget : Outcome → Scanned
forget (parsed p) = found p
forget (refused at why) = stopped at

ended_same : (at : ℕ) (o : Option Stmts) → at_the_end at o ≡ forget (finished at o)
ended_same at None = refl
ended_same at (Some p) = refl

moved_same : (at : ℕ) (c : Reason) (v : Move) (f : Mode → List Frame → Scanned) (g : Mode → List Frame → Outcome) → ((n : Mode) (u : List Frame) → f n u ≡ forget (g n u)) → moved v f (stopped at) ≡ forget (carry v g (refused at c))
moved_same at c refuse f g on = refl
moved_same at c (go n u) f g on = on n u

same_scan : (leads : Leads) (why : Reasons) (at : ℕ) (m : Mode) (s : List Frame) (ts : List Lexeme) → scan_on leads at m s ts ≡ forget (run_on leads why at m s ts)
unfolding scan_on run_on
same_scan leads why at m s [] = ended_same at (finish m s)
same_scan leads why at m s (t ∷ ts) = moved_same at (why m s t) (leads m s t) (λ n u. scan_on leads (suc at) n u ts) (λ n u. run_on leads why (suc at) n u ts) (λ n u. same_scan leads why (suc at) n u ts)

was_parsed : (o : Outcome) (p : Stmts) (x : Scanned) → x ≡ forget o → found p ≡ x → o ≡ parsed p
was_parsed (parsed q) p x e h = cc
was_parsed (refused at why) p x e h = absurd (cc)

-- WHERE IT STOPS
end_from : (at i : ℕ) (o : Option Stmts) → stopped i ≡ at_the_end at o → at ≤ i
end_from at i None h = let e : i ≡ at = cc in omega arith
end_from at i (Some p) h = absurd (cc)

move_from : (at i : ℕ) (v : Move) (f : Mode → List Frame → Scanned) → ((n : Mode) (u : List Frame) → stopped i ≡ f n u → suc at ≤ i) → stopped i ≡ moved v f (stopped at) → at ≤ i
move_from at i refuse f on h = let e : i ≡ at = cc in omega arith
move_from at i (go n u) f on h = let e : suc at ≤ i = on n u h in omega arith

stops_from : (leads : Leads) (at : ℕ) (m : Mode) (s : List Frame) (ts : List Lexeme) (i : ℕ) → stopped i ≡ scan_on leads at m s ts → at ≤ i
unfolding scan_on
stops_from leads at m s [] i h = end_from at i (finish m s) h
stops_from leads at m s (t ∷ ts) i h = move_from at i (leads m s t) (λ n u. scan_on leads (suc at) n u ts) (λ n u. stops_from leads (suc at) n u ts i) h

-- AT THE END NOTHING BUT THE END IS WRONG
end_unexpected : (at i : ℕ) (o : Option Stmts) → stopped i ≡ at_the_end at o → finished at o ≡ refused i unexpected
end_unexpected at i None h = let e : at ≡ i = cc in ap (λ k. refused k unexpected) e
end_unexpected at i (Some p) h = absurd (cc)

move_unexpected : (at i n : ℕ) (c : Reason) (v : Move) (f : Mode → List Frame → Scanned) (g : Mode → List Frame → Outcome) → suc (at + n) ≤ i → ((m : Mode) (u : List Frame) → stopped i ≡ f m u → g m u ≡ refused i unexpected)
    → stopped i ≡ moved v f (stopped at) → carry v g (refused at c) ≡ refused i unexpected
move_unexpected at i n c refuse f g l on h = let e : i ≡ at = cc in absurd (omega arith)
move_unexpected at i n c (go m u) f g l on h = on m u h

one_less : (at i n : ℕ) → at + suc n ≤ i → suc (at + n) ≤ i
one_less at i n l = omega arith

next_end : (at i n : ℕ) → at + suc n ≤ i → suc at + n ≤ i
next_end at i n l = omega arith

from_none : (n i : ℕ) → n ≤ i → 0 + n ≤ i
from_none n i l = omega arith

at_end : (leads : Leads) (why : Reasons) (at : ℕ) (m : Mode) (s : List Frame) (ts : List Lexeme) (i : ℕ) → stopped i ≡ scan_on leads at m s ts → at + length ts ≤ i → run_on leads why at m s ts ≡ refused i unexpected
unfolding scan_on run_on
at_end leads why at m s [] i h l = end_unexpected at i (finish m s) h
at_end leads why at m s (t ∷ ts) i h l =
    move_unexpected at i (length ts) (why m s t) (leads m s t) (λ n u. scan_on leads (suc at) n u ts) (λ n u. run_on leads why (suc at) n u ts) (one_less at i (length ts) l)
    (λ n u q. at_end leads why (suc at) n u ts i q (next_end at i (length ts) l)) h

-- A TOKEN IS REFUSED
-- runs that go on wherever the first does tell the reason, on the tokens up to the one that is refused
abbrev Keeps : Leads → Leads → Type 0
Keeps a b = (m : Mode) (s : List Frame) (t : Lexeme) (n : Mode) (u : List Frame) → a m s t ≡ go n u → b m s t ≡ go n u

abbrev Tells : Leads → Leads → Reasons → Type 0
Tells b c why = (m : Mode) (s : List Frame) (t : Lexeme) → why m s t ≡ told (is_refused (b m s t)) (is_refused (c m s t))

abbrev Says : Leads → Leads → Reasons → ℕ → Mode → List Frame → List Lexeme → List Lexeme → ℕ → Leads → Type 0
Says b c why at m s ts front i a = run_on a why at m s ts ≡ refused i (told (is_stopped i (scan_on b at m s front)) (is_stopped i (scan_on c at m s front)))

eq_self : (n : ℕ) → nat_eq n n ≡ true
eq_self n = grind (arith, nat_tests)

eq_next : (n : ℕ) → nat_eq (suc n) n ≡ false
eq_next n = grind (arith, nat_tests)

end_goes : (i : ℕ) (o : Option Stmts) → is_stopped i (at_the_end (suc i) o) ≡ false
end_goes i None = eq_next i
end_goes i (Some p) = refl

move_stopped : (i : ℕ) (v : Move) (f : Mode → List Frame → Scanned) → ((n : Mode) (u : List Frame) → is_stopped i (f n u) ≡ false) → is_stopped i (moved v f (stopped i)) ≡ is_refused v
move_stopped i refuse f on = eq_self i
move_stopped i (go n u) f on = on n u

-- a run on one token
one_token : (leads : Leads) (at : ℕ) (m : Mode) (s : List Frame) (t : Lexeme) → is_stopped at (scan_on leads at m s (t ∷ [])) ≡ is_refused (leads m s t)
unfolding scan_on
one_token leads at m s t = move_stopped at (leads m s t) (λ n u. scan_on leads (suc at) n u []) (λ n u. end_goes at (finish n u))

-- the token itself
refused_here : (at i : ℕ) (c : Reason) (v : Move) (f : Mode → List Frame → Scanned) (g : Mode → List Frame → Outcome) → i ≡ at → ((n : Mode) (u : List Frame) → stopped i ≡ f n u → suc at ≤ i) → stopped i ≡ moved v f (stopped at) → carry v g (refused at c) ≡ refused at c
refused_here at i c refuse f g e on h = refl
refused_here at i c (go n u) f g e on h = let l : suc at ≤ i = on n u h in absurd (omega arith)

told_same : (at i : ℕ) (w : Reason) (x y : Scanned) (a b : Bool) → i ≡ at → is_stopped at x ≡ a → is_stopped at y ≡ b → w ≡ told a b → refused at w ≡ refused i (told (is_stopped i x) (is_stopped i y))
told_same at i w x y a b e p q r =
    ap (refused at) (r ∙ ap (λ z. told z b) (sym p) ∙ ap (told (is_stopped at x)) (sym q)) ∙ ap (λ k. refused k (told (is_stopped k x) (is_stopped k y))) (sym e)

here_says : (a b c : Leads) (why : Reasons) → Tells b c why → (at : ℕ) (m : Mode) (s : List Frame) (t : Lexeme) (ts : List Lexeme) (i : ℕ) → i ≡ at → stopped i ≡ scan_on a at m s (t ∷ ts) → Says b c why at m s (t ∷ ts) (t ∷ []) i a
unfolding scan_on run_on
here_says a b c why tells at m s t ts i e h =
    refused_here at i (why m s t) (a m s t) (λ n u. scan_on a (suc at) n u ts) (λ n u. run_on a why (suc at) n u ts) e (λ n u. stops_from a (suc at) n u ts i) h
    ∙ told_same at i (why m s t) (scan_on b at m s (t ∷ [])) (scan_on c at m s (t ∷ [])) (is_refused (b m s t)) (is_refused (c m s t)) e (one_token b at m s t) (one_token c at m s t) (tells m s t)

-- one behind it
later_says : (a b c : Leads) (why : Reasons) (at : ℕ) (m : Mode) (s : List Frame) (t : Lexeme) (ts front : List Lexeme) (i j : ℕ) (v : Move) → a m s t ≡ v → i ≡ at + suc j → stopped i ≡ moved v (λ n u. scan_on a (suc at) n u ts) (stopped at)
    → ((n : Mode) (u : List Frame) → v ≡ go n u → b m s t ≡ go n u) → ((n : Mode) (u : List Frame) → v ≡ go n u → c m s t ≡ go n u)
    → ((n : Mode) (u : List Frame) → stopped i ≡ scan_on a (suc at) n u ts → Says b c why (suc at) n u ts front i a) → Says b c why at m s (t ∷ ts) (t ∷ front) i a
later_says a b c why at m s t ts front i j refuse w e h p q on = let d : i ≡ at = cc in absurd (omega arith)
later_says a b c why at m s t ts front i j (go n u) w e h p q on =
    run_next a why at m s t ts (go n u) w ∙ on n u h
    ∙ ap (λ x. refused i (told (is_stopped i x) (is_stopped i (scan_on c (suc at) n u front)))) (sym (scan_next b at m s t front (go n u) (p n u refl)))
    ∙ ap (λ y. refused i (told (is_stopped i (scan_on b at m s (t ∷ front))) (is_stopped i y))) (sym (scan_next c at m s t front (go n u) (q n u refl)))

index_from : (i : ℕ) → i ≡ 0 + i
index_from i = omega arith

first_index : (at i : ℕ) → i ≡ at + 0 → i ≡ at
first_index at i e = omega arith

next_index : (at i j : ℕ) → i ≡ at + suc j → i ≡ suc at + j
next_index at i j e = omega arith

less_one : (j n : ℕ) → suc j < suc n → j < n
less_one j n l = omega arith

none_less : (j : ℕ) → j < 0 → ⊥
none_less j l = omega arith

says : (a b c : Leads) (why : Reasons) → Keeps a b → Keeps a c → Tells b c why → (at : ℕ) (m : Mode) (s : List Frame) (ts : List Lexeme) (i j : ℕ) → i ≡ at + j → j < length ts → stopped i ≡ scan_on a at m s ts → Says b c why at m s ts (take (suc j) ts) i a
says a b c why kb kc tells at m s [] i j e l h = absurd (none_less j l)
says a b c why kb kc tells at m s (t ∷ ts) i zero e l h = here_says a b c why tells at m s t ts i (first_index at i e) h
says a b c why kb kc tells at m s (t ∷ ts) i (suc j) e l h =
    later_says a b c why at m s t ts (take (suc j) ts) i j (a m s t) refl e (h ∙ scan_next a at m s t ts (a m s t) refl) (kb m s t) (kc m s t)
    (λ n u q. says a b c why kb kc tells (suc at) n u ts i j (next_index at i j e) (less_one j (length ts) l) q)

-- LISTS OF ANY LENGTH
end_many : (at i : ℕ) (o : Option Stmts) → finished at o ≡ refused i too_many → ⊥
end_many at i None h = cc
end_many at i (Some p) h = cc

move_many : (at i : ℕ) (c : Reason) (v : Move) (g : Mode → List Frame → Outcome) → (v ≡ refuse → c ≡ too_many → ⊥) → ((n : Mode) (u : List Frame) → g n u ≡ refused i too_many → ⊥) → carry v g (refused at c) ≡ refused i too_many → ⊥
move_many at i c refuse g here on h = let e : c ≡ too_many = cc in here refl e
move_many at i c (go n u) g here on h = on n u h

run_many : (leads : Leads) (why : Reasons) → ((m : Mode) (s : List Frame) (t : Lexeme) → leads m s t ≡ refuse → why m s t ≡ too_many → ⊥) → (at : ℕ) (m : Mode) (s : List Frame) (ts : List Lexeme) (i : ℕ) → run_on leads why at m s ts ≡ refused i too_many → ⊥
unfolding run_on
run_many leads why never at m s [] i h = end_many at i (finish m s) h
run_many leads why never at m s (t ∷ ts) i h = move_many at i (why m s t) (leads m s t) (λ n u. run_on leads why (suc at) n u ts) (never m s t) (λ n u. run_many leads why never (suc at) n u ts i) h

-- where what goes on with lists of any length refuses, too many is no reason
many_test : (a b : Bool) → told a b ≡ too_many → b ≡ true → ⊥
many_test true b h e = cc
many_test false true h e = cc
many_test false false h e = cc

-- THE MACHINE
scan_is : (lim : Limits) (side : Side) (ts : List Lexeme) → scan lim side ts ≡ scan_on (step lim side) 0 start (in_list program end 0 ∷ []) ts
unfolding scan
scan_is lim side ts = refl

-- what is found is parsed
pub parsed_of : (side : Side) (ts : List Lexeme) (p : Stmts) → found p ≡ scan (limits side) side ts → parse side ts ≡ parsed p
parsed_of side ts p h =
    let leads : Leads = step (limits side) side in
    run_as side 0 start (in_list program end 0 ∷ []) ts
    ∙ was_parsed (run_on leads (reason side) 0 start (in_list program end 0 ∷ []) ts) p (scan (limits side) side ts) (scan_is (limits side) side ts ∙ same_scan leads (reason side) 0 start (in_list program end 0 ∷ []) ts) h

pub refused_at_end : (side : Side) (ts : List Lexeme) (i : ℕ) → stopped i ≡ scan (limits side) side ts → length ts ≤ i → parse side ts ≡ refused i unexpected
refused_at_end side ts i h l =
    run_as side 0 start (in_list program end 0 ∷ []) ts ∙ at_end (step (limits side) side) (reason side) 0 start (in_list program end 0 ∷ []) ts i (h ∙ scan_is (limits side) side ts) (from_none (length ts) i l)

unlimited_looser : (side : Side) → Looser (limits side) unlimited
unlimited_looser side = record { deeper = λ n h. refl; longer = λ n h. refl }

unlisted_looser : (side : Side) → Looser (limits side) (unlisted side)
unlisted_looser side = record { deeper = λ n h. h; longer = λ n h. refl }

step_keeps : (side : Side) (lam : Limits) → Looser (limits side) lam → Keeps (step (limits side) side) (step lam side)
step_keeps side lam l m s t n u h = move_kept l side m s t.kind t.line_before n u h

step_tells : (side : Side) → Tells (step unlimited side) (step (unlisted side) side) (reason side)
step_tells side m s t = refl

-- a token is refused for what runs within looser limits on the tokens up to it tell
pub refused_of : (side : Side) (ts : List Lexeme) (i : ℕ) → stopped i ≡ scan (limits side) side ts → i < length ts
    → parse side ts ≡ refused i (told (is_stopped i (scan unlimited side (take (suc i) ts))) (is_stopped i (scan (unlisted side) side (take (suc i) ts))))
unfolding scan
refused_of side ts i h l =
    run_as side 0 start (in_list program end 0 ∷ []) ts
    ∙ says (step (limits side) side) (step unlimited side) (step (unlisted side) side) (reason side) (step_keeps side unlimited (unlimited_looser side)) (step_keeps side (unlisted side) (unlisted_looser side)) (step_tells side) 0 start (in_list program end 0 ∷ []) ts i i (index_from i) l h

-- the plain side has lists of any length
plain_never : (m : Mode) (s : List Frame) (t : Lexeme) → step (limits Plain) Plain m s t ≡ refuse → reason Plain m s t ≡ too_many → ⊥
plain_never m s t e h = many_test (is_refused (step unlimited Plain m s t)) (is_refused (step (unlisted Plain) Plain m s t)) h (ap is_refused e)

pub never_many : (ts : List Lexeme) (i : ℕ) → parse Plain ts ≡ refused i too_many → ⊥
never_many ts i h = run_many (step (limits Plain) Plain) (reason Plain) plain_never 0 start (in_list program end 0 ∷ []) ts i (sym (run_as Plain 0 start (in_list program end 0 ∷ []) ts) ∙ h)

-- ONE MORE TOKEN
drop_tokens : (ts : List Token) (n : ℕ) (t : Token) → n < length ts → t ≡ get_or ts n t → drop n ts ≡ t ∷ drop (suc n) ts
drop_tokens [] n t l e = absurd (none_less n l)
drop_tokens (u ∷ ts) zero t l e = ap (λ x. x ∷ ts) (sym e)
drop_tokens (u ∷ ts) (suc n) t l e = drop_tokens ts n t (less_one n (length ts) l) e

pub scan_more : (leads : Leads) (at : ℕ) (m : Mode) (s : List Frame) (ts : List Token) (t : Token) (v : Move) → at < length ts → t ≡ get_or ts at t → leads m s (lexeme_of t) ≡ v
    → scan_on leads at m s (lexemes (drop at ts)) ≡ moved v (λ n u. scan_on leads (at + 1) n u (lexemes (drop (at + 1) ts))) (stopped at)
scan_more leads at m s ts t v l e h =
    let k : suc at ≡ at + 1 = omega arith in
    ap (λ z. scan_on leads at m s (lexemes z)) (drop_tokens ts at t l e) ∙ scan_next leads at m s (lexeme_of t) (lexemes (drop (suc at) ts)) v h
    ∙ ap (λ j. moved v (λ n u. scan_on leads j n u (lexemes (drop j ts))) (stopped at)) k

pub scan_begins : (lim : Limits) (side : Side) (ts : List Token) (s : List Frame) → s ≡ in_list program end 0 ∷ [] → scan lim side (lexemes ts) ≡ scan_on (step lim side) 0 start s (lexemes ts)
scan_begins lim side ts s e = scan_is lim side (lexemes ts) ∙ ap (λ u. scan_on (step lim side) 0 start u (lexemes ts)) (sym e)

drop_all : (ts : List Token) (n : ℕ) → length ts ≤ n → drop n ts ≡ []
drop_all [] zero l = refl
drop_all [] (suc n) l = refl
drop_all (t ∷ ts) zero l = absurd (omega arith)
drop_all (t ∷ ts) (suc n) l = drop_all ts n (omega arith)

pub scan_ends : (leads : Leads) (at : ℕ) (m : Mode) (s : List Frame) (ts : List Token) (o : Option Stmts) → length ts ≤ at → finish m s ≡ o → scan_on leads at m s (lexemes (drop at ts)) ≡ at_the_end at o
scan_ends leads at m s ts o l e = ap (λ z. scan_on leads at m s (lexemes z)) (drop_all ts at l) ∙ scan_last leads at m s ∙ ap (at_the_end at) e
