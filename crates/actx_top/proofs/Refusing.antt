-- A text is one program at most, and where it is refused it is none.
use Rattle.std.proofs.Common.{◌≡◌, ◌↔◌, ◌<◌, ◌≤◌, ◌∙◌, ℕ, List, [], None, Some, Bool, false, true, length, Result, Ok, Err, refl, sym, ap, subst, arith}
use Rattle.std.specs.Prelude.{IfErr, IsErrOf}
use Rattle.actx_grammar.specs.declared.side.Side.TheVariants.{Source, Plain}
use Rattle.actx_grammar.specs.Grammar.{IsSpelled}
use Rattle.actx_grammar.specs.Parser.{Reason}
use Rattle.actx_grammar.specs.Static.{Kind, Clean, offences, first_offence}
use Rattle.actx_grammar.specs.Tree.{Stmts}
use Rattle.actx_laws.proofs.ParseAll.{one_program}
use Rattle.actx_lex.specs.declared.token.Token.{Token}
use Rattle.actx_lex.specs.declared.lex.LexFault.{LexFault}
use Rattle.actx_lex.specs.declared.lex.LexFault.TheVariants as l
use Rattle.actx_lex.specs.Lexical.{NotText, Stuck, Tokens}
use Rattle.actx_lex.proofs.OneCut.{one_cut, not_stuck}
use Rattle.actx_lex.specs.Lexemes.{lexemes}
use Rattle.actx_top.specs.Accepts.{Accepts, Takes, ReadsPlain}
use Rattle.actx_top.specs.Faults.{Says}
use Rattle.actx_top.specs.Refusals.{NoProgram, Offends, Waits, Cause, not_utf8, bad_token, bad_number, is_unexpected, is_too_deep, are_too_many, not_declared, bound_twice, is_reserved, is_misplaced, not_yet, Refuses, RefusedAt, too_long, within}
use Rattle.actx_rules.specs.Taken.{first_untaken, IsTaken}
use Rattle.actx_top.specs.declared.read.TextFault.{TextFault}
use Rattle.actx_top.specs.declared.read.TextFault.TheVariants as f

-- what its tokens spell, whichever way they were found
spelled_by : {text : List ℕ} {p : Stmts} (ts us : List Token) → Tokens text ts → Tokens text us → IsSpelled Source p (lexemes ts) → IsSpelled Source p (lexemes us)
spelled_by {text} {p} ts us t u h = subst (λ xs. IsSpelled Source p (lexemes xs)) (one_cut text ts us t u) h

pub accepted_once : {text : List ℕ} {p q : Stmts} → Accepts text p → Accepts text q → p ≡ q
accepted_once {text} {p} {q} a b = one_program Source p q (lexemes b.tokens) (spelled_by a.tokens b.tokens a.cut b.cut a.spelled) b.spelled

pub takes_once : {text : List ℕ} {p q : Stmts} → Takes text p → Takes text q → p ≡ q
takes_once s t = accepted_once s.accepted t.accepted

pub plain_once : {text : List ℕ} {p q : Stmts} → ReadsPlain text p → ReadsPlain text q → p ≡ q
plain_once {text} {p} {q} a b = one_program Plain p q (lexemes b.tokens) (subst (λ xs. IsSpelled Plain p (lexemes xs)) (one_cut text a.tokens b.tokens a.cut b.cut) a.spelled) b.spelled

-- a clean program has no first offence
no_first : (p : Stmts) → Clean p → first_offence p ≡ None
no_first p h = cc

no_program : {text : List ℕ} {why : Reason} {at : ℕ} → NoProgram text why at → (p : Stmts) → Takes text p → ⊥
no_program n p t = n.none p (spelled_by t.accepted.tokens n.tokens t.accepted.cut n.cut t.accepted.spelled)

offended : {text : List ℕ} {kind : Kind} {at : ℕ} → Offends text kind at → (p : Stmts) → Takes text p → ⊥
offended o p t =
    let same : p ≡ o.program = one_program Source p o.program (lexemes o.tokens) (spelled_by t.accepted.tokens o.tokens t.accepted.cut o.cut t.accepted.spelled) o.spelled in
    let none : first_offence o.program ≡ None = subst (λ q. first_offence q ≡ None) same (no_first p t.accepted.clean) in
    let first = o.first in
    absurd (cc)

waiting : {text : List ℕ} {at : ℕ} → Waits text at → (p : Stmts) → Takes text p → ⊥
waiting w p t =
    let none : first_untaken w.program ≡ None = subst (λ x. first_untaken x ≡ None) (accepted_once t.accepted w.accepted) t.taken in
    let first = w.first in
    absurd (cc)

caused_none : {text : List ℕ} {number at : ℕ} → Cause text number at → (p : Stmts) → Takes text p → ⊥
caused_none (not_utf8 n h) p t = h.none t.accepted.cut.chars t.accepted.cut.is
caused_none {text} (bad_token n h) p t = not_stuck text t.accepted.tokens false n t.accepted.cut h
caused_none {text} (bad_number n h) p t = not_stuck text t.accepted.tokens true n t.accepted.cut h
caused_none (is_unexpected at h) p t = no_program h p t
caused_none (is_too_deep at h) p t = no_program h p t
caused_none (are_too_many at h) p t = no_program h p t
caused_none (not_declared at h) p t = offended h p t
caused_none (bound_twice at h) p t = offended h p t
caused_none (is_reserved at h) p t = offended h p t
caused_none (is_misplaced at h) p t = offended h p t
caused_none (not_yet at h) p t = waiting h p t

refuses_none : {text : List ℕ} {number at : ℕ} → Refuses text number at → (p : Stmts) → Takes text p → ⊥
refuses_none (too_long l) p t = let short = t.accepted.short in absurd (omega (arith, l, short))
refuses_none (within short cause) p t = caused_none cause p t

pub refused_none : {text : List ℕ} {number line column : ℕ} → RefusedAt text number line column → (p : Stmts) → Takes text p → ⊥
refused_none r p t = refuses_none r.refuses p t

-- what is a program is not refused
never_refused : (text : List ℕ) (p : Stmts) (e : TextFault) → Takes text p → Says text e → e ≡ f.NoMemory
never_refused text p (f.Refused number place) t h = absurd (refused_none h p t)
never_refused text p f.NoMemory t h = refl

pub if_refused : {T : Type 0} (text : List ℕ) (r : Result T TextFault) → IfErr r (Says text) → (p : Stmts) → Takes text p → IfErr r (λ e. e ≡ f.NoMemory)
if_refused text (Ok made) h p t = tt
if_refused text (Err e) h p t = never_refused text p e t h

-- A PLAIN TEXT is not refused
pub plain_text : (text : List ℕ) (n : ℕ) → ((q : Stmts) × ReadsPlain text q) → NotText text n → ⊥
plain_text text n p h = h.none p.1.cut.chars p.1.cut.is

pub plain_free : (text : List ℕ) (number : Bool) (n : ℕ) → ((q : Stmts) × ReadsPlain text q) → Stuck text number n → ⊥
plain_free text number n p h = not_stuck text p.1.tokens number n p.1.cut h

pub plain_short : {T : Type 0} (text : List ℕ) (r : Result T LexFault) → (IsErrOf r l.TooLong ↔ ((Plain ≡ Source) × (1048576 < length text))) → r ≡ Err l.TooLong → ⊥
plain_short text r h e = let other = (h.0 e).0 in absurd (cc)

pub plain_spelled : (text : List ℕ) (ts : List Token) → ((q : Stmts) × ReadsPlain text q) → Tokens text ts → ((q : Stmts) → IsSpelled Plain q (lexemes ts) → ⊥) → ⊥
plain_spelled text ts p t none = none p.0 (subst (λ xs. IsSpelled Plain p.0 (lexemes xs)) (one_cut text p.1.tokens ts p.1.cut t) p.1.spelled)

-- and is read as itself
pub plain_read : (text : List ℕ) (ts : List Token) (q : Stmts) → ReadsPlain text q → Tokens text ts → IsSpelled Plain q (lexemes ts)
plain_read text ts q p t = subst (λ xs. IsSpelled Plain q (lexemes xs)) (one_cut text p.tokens ts p.cut t) p.spelled

-- A TEXT IS A PROGRAM, by its parts
pub takes_by : (text : List ℕ) (ts : List Token) (p : Stmts) → length text ≤ 1048576 → Tokens text ts → IsSpelled Source p (lexemes ts) → Clean p → IsTaken p → Takes text p
takes_by text ts p short cut spelled clean taken = record { accepted = record { short = short; tokens = ts; cut = cut; spelled = spelled; clean = clean }; taken = taken }
