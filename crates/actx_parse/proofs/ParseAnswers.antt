-- What the machine's outcome says of an answer.
use Rattle.std.proofs.Common.{◌≡◌, ℕ, zero, suc, ◌+◌, ◌<◌, ◌≤◌, Bool, List, [], ◌∷◌, length, All, Ok, Err, None, refl, sym, ◌∙◌, ap, subst, arith}
use Rattle.std.specs.Prelude.{Result, IfOk, IfErr, IsErrOf, take}
use Rattle.std.specs.List.{AllByRecursion}
use Rattle.std.proofs.lemmas.List.Elements.{recursion_from_All, All-from_recursion}
use Rattle.actx_grammar.specs.declared.side.Side.{Side}
use Rattle.actx_grammar.specs.declared.side.Side.TheVariants.{Source, Plain}
use Rattle.actx_grammar.specs.Exact.{Begins, BeginsWithin, InForm, UpTo}
use Rattle.actx_grammar.specs.Grammar.{deepest, IsSpelled}
use Rattle.actx_grammar.specs.Lexemes.{Lexeme}
use Rattle.actx_grammar.specs.Parser.{Reason, unexpected, too_deep, too_many, parsed, refused, parse, limits, unlisted, unlimited}
use Rattle.actx_grammar.specs.Tree.{Stmts}
use Rattle.actx_ast.specs.View.{program_view}
use Rattle.actx_grammar.specs.Words.{HasForm}
use Rattle.actx_laws.proofs.ParseAll.{parses}
use Rattle.actx_laws.proofs.ParseReasons.{unexpected_stops, deep_stops}
use Rattle.actx_laws.proofs.ParseStops.{stops, refused_whole}
use Rattle.actx_laws.proofs.ReadyFirst.{refuses_first}
use Rattle.actx_laws.proofs.ViableParsed.{spells}
use Rattle.actx_lex.specs.declared.token.Token.{Token}
use Rattle.actx_lex.specs.Lexical.{kinds_of}
use Rattle.actx_parse.specs.Answers.{ArePlaces, IsTold, RefusesAt, StopsFirst}
use Rattle.actx_lex.specs.Lexemes.{lexeme_of, lexemes}
use Rattle.actx_parse.specs.Scan.{scan, is_stopped, told}
use Rattle.actx_parse.specs.Scan as scanned
use Rattle.actx_places.specs.Walk.{places_of}
use Rattle.actx_parse.specs.declared.parse.Parsed.{Parsed}
use Rattle.actx_parse.specs.declared.parse.ParseFault.{ParseFault}
use Rattle.actx_parse.specs.declared.parse.ParseFault.TheVariants as fault
use Rattle.actx_places.proofs.WalkAll.{places_are}
use Rattle.actx_parse.proofs.ParseScan.{never_many, refused_of, refused_at_end}

forms_by : (ts : List Token) → AllByRecursion HasForm (kinds_of ts) → AllByRecursion (λ t. HasForm t.kind) (lexemes ts)
forms_by [] f = f
forms_by (t ∷ ts) f = (f.0, forms_by ts f.1)

in_form : (ts : List Token) → All HasForm (kinds_of ts) → InForm (lexemes ts)
in_form ts f = All-from_recursion (λ t. HasForm t.kind) (lexemes ts) (forms_by ts (recursion_from_All HasForm (kinds_of ts) f))

-- a program that is answered is spelled
pub spelled : (side : Side) (ts : List Token) (r : Result Parsed ParseFault) → All HasForm (kinds_of ts) → IfOk r (λ p. parse side (lexemes ts) ≡ parsed (program_view p.program)) → IfOk r (λ p. IsSpelled side (program_view p.program) (lexemes ts))
spelled side ts (Ok p) f h = spells side (program_view p.program) (lexemes ts) (in_form ts f) h
spelled side ts (Err e) f h = tt

same_program : (p q : Stmts) → parsed p ≡ parsed q → p ≡ q
same_program p q e = cc

-- it is the one that is spelled
pub only_one : (side : Side) (ts : List Lexeme) (r : Result Parsed ParseFault) → IfOk r (λ p. parse side ts ≡ parsed (program_view p.program)) → (p : Stmts) → IsSpelled side p ts → IfOk r (λ q. program_view q.program ≡ p)
only_one side ts (Ok q) h p s = same_program (program_view q.program) p (sym h ∙ parses side p ts s)
only_one side ts (Err e) h p s = tt

-- its nodes begin where the walk says
pub where_nodes_begin : (side : Side) (ts : List Lexeme) (r : Result Parsed ParseFault) → IfOk r (λ q. q.places.items ≡ places_of (program_view q.program) ts) → IfOk r (λ q. ArePlaces side (program_view q.program) ts q.places.items)
where_nodes_begin side ts (Ok q) h = λ d. h ∙ places_are ts d
where_nodes_begin side ts (Err e) h = tt

stops_first : (side : Side) (ts : List Token) (e : ParseFault) → All HasForm (kinds_of ts) → IsTold side (lexemes ts) e → StopsFirst side (lexemes ts) e
stops_first side ts (fault.Unexpected i) f h = refuses_first side (lexemes ts) i unexpected (in_form ts f) h
stops_first side ts (fault.TooDeep i) f h = refuses_first side (lexemes ts) i too_deep (in_form ts f) h
stops_first side ts (fault.TooMany i) f h = refuses_first side (lexemes ts) i too_many (in_form ts f) h
stops_first side ts fault.NoMemory f h = tt

-- a refusal is the first
pub refused_first : (side : Side) (ts : List Token) (r : Result Parsed ParseFault) → All HasForm (kinds_of ts) → IfErr r (IsTold side (lexemes ts)) → IfErr r (StopsFirst side (lexemes ts))
refused_first side ts (Ok p) f h = tt
refused_first side ts (Err e) f h = stops_first side ts e f h

abbrev pub NoneGoesOn : Side → List Lexeme → ℕ → Type 0
NoneGoesOn side ts i = (UpTo (BeginsWithin side) i ts → ⊥) × ((p : Stmts) → IsSpelled side p ts → ⊥)

none_goes_on : (side : Side) (ts : List Lexeme) (i : ℕ) (why : Reason) → parse side ts ≡ refused i why → NoneGoesOn side ts i
none_goes_on side ts i why h = (stops side ts i why h, refused_whole side ts i why h)

refuses : (side : Side) (ts : List Lexeme) (e : ParseFault) → IsTold side ts e → RefusesAt (NoneGoesOn side ts) e
refuses side ts (fault.Unexpected i) h = none_goes_on side ts i unexpected h
refuses side ts (fault.TooDeep i) h = none_goes_on side ts i too_deep h
refuses side ts (fault.TooMany i) h = none_goes_on side ts i too_many h
refuses side ts fault.NoMemory h = tt

-- no program goes on where the answer is a refusal
pub stopped : (side : Side) (ts : List Lexeme) (r : Result Parsed ParseFault) → IfErr r (IsTold side ts) → IfErr r (RefusesAt (NoneGoesOn side ts))
stopped side ts (Ok p) h = tt
stopped side ts (Err e) h = refuses side ts e h

no_error : (p : Parsed) (e : ParseFault) → IsErrOf {T = Parsed} {E = ParseFault} (Ok p) e → ⊥
no_error p e h = cc

same_error : (f e : ParseFault) → IsErrOf {T = Parsed} {E = ParseFault} (Err f) e → f ≡ e
same_error f e h = cc

told_as : (side : Side) (ts : List Lexeme) (r : Result Parsed ParseFault) (e : ParseFault) → IfErr r (IsTold side ts) → IsErrOf r e → IsTold side ts e
told_as side ts (Ok p) e h q = absurd (no_error p e q)
told_as side ts (Err f) e h q = subst (λ z. IsTold side ts z) (same_error f e q) h

-- nor within what the reason puts aside
pub stops_unexpected : (side : Side) (ts : List Lexeme) (r : Result Parsed ParseFault) → IfErr r (IsTold side ts) → (i : ℕ) → IsErrOf r (fault.Unexpected i) → (depth : ℕ) → UpTo (Begins side None depth) i ts → ⊥
stops_unexpected side ts r h i q = unexpected_stops side ts i (told_as side ts r (fault.Unexpected i) h q)

pub stops_deep : (side : Side) (ts : List Lexeme) (r : Result Parsed ParseFault) → IfErr r (IsTold side ts) → (i : ℕ) → IsErrOf r (fault.TooDeep i) → UpTo (Begins side None (deepest side)) i ts → ⊥
stops_deep side ts r h i q = deep_stops side ts i (told_as side ts r (fault.TooDeep i) h q)

-- lists have any length on the plain side
pub stops_many : (ts : List Lexeme) (r : Result Parsed ParseFault) → IfErr r (IsTold Plain ts) → (i : ℕ) → IsErrOf r (fault.TooMany i) → ⊥
stops_many ts r h i q = never_many ts i (told_as Plain ts r (fault.TooMany i) h q)

-- REASONS OF TOKENS
take_lexemes : (n : ℕ) (ts : List Token) → take n (lexemes ts) ≡ lexemes (take n ts)
take_lexemes zero ts = refl
take_lexemes (suc n) [] = refl
take_lexemes (suc n) (t ∷ ts) = ap (λ us. lexeme_of t ∷ us) (take_lexemes n ts)

length_lexemes : (ts : List Token) → length (lexemes ts) ≡ length ts
length_lexemes [] = refl
length_lexemes (t ∷ ts) = ap suc (length_lexemes ts)

front_lexemes : (i : ℕ) (ts front : List Token) → front ≡ take (i + 1) ts → lexemes front ≡ take (suc i) (lexemes ts)
front_lexemes i ts front e = let n : i + 1 ≡ suc i = omega arith in ap lexemes e ∙ ap (λ k. lexemes (take k ts)) n ∙ sym (take_lexemes (suc i) ts)

-- what runs within looser limits tell
pub told_of : (side : Side) (ts front : List Token) (i : ℕ) (a b : Bool) → scanned.stopped i ≡ scan (limits side) side (lexemes ts) → i < length ts → front ≡ take (i + 1) ts
    → a ≡ is_stopped i (scan unlimited side (lexemes front)) → b ≡ is_stopped i (scan (unlisted side) side (lexemes front)) → parse side (lexemes ts) ≡ refused i (told a b)
told_of side ts front i a b h l e f g =
    let n = front_lexemes i ts front e in
    let m : i < length (lexemes ts) = omega (arith, length_lexemes ts) in
    refused_of side (lexemes ts) i h m ∙ ap (λ us. refused i (told (is_stopped i (scan unlimited side us)) (is_stopped i (scan (unlisted side) side us)))) (sym n)
    ∙ ap (λ x. refused i (told x (is_stopped i (scan (unlisted side) side (lexemes front))))) (sym f) ∙ ap (λ y. refused i (told a y)) (sym g)

pub told_at_end : (side : Side) (ts : List Token) (i : ℕ) → scanned.stopped i ≡ scan (limits side) side (lexemes ts) → length ts ≤ i → parse side (lexemes ts) ≡ refused i unexpected
told_at_end side ts i h l = refused_at_end side (lexemes ts) i h (omega (arith, length_lexemes ts))
