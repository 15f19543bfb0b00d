-- What the faults of reading say of a text, as the reasons of refusals at their bytes.
use Rattle.std.proofs.Common.{◌≡◌, ◌↔◌, ◌<◌, ◌≤◌, ℕ, List, [], ◌∷◌, Result, Err, length, true, false, Some, refl, sym, ap, ◌∙◌, subst, ⊎_elim, arith}
use Rattle.std.specs.Prelude.{All, IsErrOf}
use Rattle.std.proofs.lemmas.Bool.{cases_lt}
use Rattle.std.proofs.lemmas.List.Elements.{All-nil, All-cons, All-head, All-tail}
use Rattle.actx_grammar.specs.declared.side.Side.{Side}
use Rattle.actx_grammar.specs.declared.side.Side.TheVariants.{Source}
use Rattle.actx_grammar.specs.Exact.{BeginsWithin, UpTo, InForm}
use Rattle.actx_grammar.specs.Grammar.{IsSpelled}
use Rattle.actx_grammar.specs.Lexemes.{Lexeme}
use Rattle.actx_grammar.specs.Parser.{parse, refused, Reason, unexpected, too_deep, too_many}
use Rattle.actx_grammar.specs.Static.{Kind, Clean, undeclared, twice, reserved, misplaced, first_offence}
use Rattle.actx_grammar.specs.Tree.{Stmts}
use Rattle.actx_grammar.specs.Words.{HasForm}
use Rattle.actx_laws.proofs.ReadyFirst.{refuses_first}
use Rattle.actx_lex.specs.declared.lex.LexFault.{LexFault}
use Rattle.actx_lex.specs.declared.lex.LexFault.TheVariants as l
use Rattle.actx_lex.specs.declared.token.Token.{Token}
use Rattle.actx_lex.specs.Lexical.{NotText, Stuck, Tokens, kinds_of}
use Rattle.actx_lex.specs.Lexemes.{lexeme_of, lexemes}
use Rattle.actx_parse.specs.Answers.{ArePlaces}
use Rattle.actx_top.specs.Refusals.{byte_of, IsByteOf, NoProgram, Offends, Waits, not_utf8, bad_token, bad_number, is_unexpected, is_too_deep, are_too_many, not_declared, bound_twice, is_reserved, is_misplaced, not_yet, Refuses, too_long, within}
use Rattle.actx_rules.specs.Taken.{first_untaken}
use Rattle.actx_top.proofs.Placed.{offence_node, node_begins}
use Rattle.actx_top.proofs.Untaken.{untaken_node}

-- THE BYTES AND TOKENS
abbrev IsLong : {T : Type 0} → List ℕ → Result T LexFault → Type 0
IsLong text r = IsErrOf r l.TooLong ↔ ((Source ≡ Source) × (1048576 < length text))

pub not_long : {T : Type 0} (text : List ℕ) (r : Result T LexFault) → IsLong text r → (IsErrOf r l.TooLong → ⊥) → length text ≤ 1048576
not_long text r h never = ⊎_elim (λ long. absurd (never (h.1 (refl, long)))) (λ short. short) (cases_lt 1048576 (length text))

pub long_refused : {T : Type 0} (text : List ℕ) (r : Result T LexFault) → IsLong text r → r ≡ Err l.TooLong → Refuses text 3 0
long_refused text r h e = too_long (h.0 e).1

pub utf8_refused : {T : Type 0} (text : List ℕ) (r : Result T LexFault) (n : ℕ) → IsLong text r → ((n : ℕ) → IsErrOf r (l.NotUtf8 n) → NotText text n) → r ≡ Err (l.NotUtf8 n) → Refuses text 1 n
utf8_refused text r n h f e = within (not_long text r h (λ z. absurd (cc))) (not_utf8 n (f n e))

pub token_refused : {T : Type 0} (text : List ℕ) (r : Result T LexFault) (n : ℕ) → IsLong text r → ((n : ℕ) → IsErrOf r (l.BadToken n) → Stuck text false n) → r ≡ Err (l.BadToken n) → Refuses text 2 n
token_refused text r n h f e = within (not_long text r h (λ z. absurd (cc))) (bad_token n (f n e))

pub number_refused : {T : Type 0} (text : List ℕ) (r : Result T LexFault) (n : ℕ) → IsLong text r → ((n : ℕ) → IsErrOf r (l.BadNumber n) → Stuck text true n) → r ≡ Err (l.BadNumber n) → Refuses text 4 n
number_refused text r n h f e = within (not_long text r h (λ z. absurd (cc))) (bad_number n (f n e))

-- THE GRAMMAR
all_in_form : (ts : List Token) → All HasForm (kinds_of ts) → InForm (lexemes ts)
all_in_form [] h = All-nil (λ (t : Lexeme). HasForm t.kind)
all_in_form (t ∷ ts) h = All-cons (λ (t : Lexeme). HasForm t.kind) (lexeme_of t) (lexemes ts) (All-head HasForm t.kind (kinds_of ts) h) (all_in_form ts (All-tail HasForm t.kind (kinds_of ts) h))

-- no program goes on with token i, and the tokens spell none
abbrev pub NoneAt : Side → List Token → ℕ → Type 0
NoneAt side ts i = (UpTo (BeginsWithin side) i (lexemes ts) → ⊥) × ((p : Stmts) → IsSpelled side p (lexemes ts) → ⊥)

no_program : (text : List ℕ) (ts : List Token) (why : Reason) (end i at : ℕ) → Tokens text ts → All HasForm (kinds_of ts) → end ≡ length text → at ≡ byte_of ts end i → parse Source (lexemes ts) ≡ refused i why → NoneAt Source ts i → NoProgram text why at
no_program text ts why end i at cut form e h told stops =
    let first = refuses_first Source (lexemes ts) i why (all_in_form ts form) told in
    record {
      tokens = ts;
      cut = cut;
      none = stops.1;
      token = i;
      first = first.0;
      reason = first.1;
      place = h ∙ ap (λ z. byte_of ts z i) e;
    }

pub unexpected_refused : (text : List ℕ) (ts : List Token) (end i at : ℕ) → length text ≤ 1048576 → Tokens text ts → All HasForm (kinds_of ts) → end ≡ length text → at ≡ byte_of ts end i → parse Source (lexemes ts) ≡ refused i unexpected → NoneAt Source ts i → Refuses text 5 at
unexpected_refused text ts end i at short cut form e h told stops = within short (is_unexpected at (no_program text ts unexpected end i at cut form e h told stops))

pub deep_refused : (text : List ℕ) (ts : List Token) (end i at : ℕ) → length text ≤ 1048576 → Tokens text ts → All HasForm (kinds_of ts) → end ≡ length text → at ≡ byte_of ts end i → parse Source (lexemes ts) ≡ refused i too_deep → NoneAt Source ts i → Refuses text 6 at
deep_refused text ts end i at short cut form e h told stops = within short (is_too_deep at (no_program text ts too_deep end i at cut form e h told stops))

pub many_refused : (text : List ℕ) (ts : List Token) (end i at : ℕ) → length text ≤ 1048576 → Tokens text ts → All HasForm (kinds_of ts) → end ≡ length text → at ≡ byte_of ts end i → parse Source (lexemes ts) ≡ refused i too_many → NoneAt Source ts i → Refuses text 7 at
many_refused text ts end i at short cut form e h told stops = within short (are_too_many at (no_program text ts too_many end i at cut form e h told stops))

-- THE NODES
offends : (text : List ℕ) (ts : List Token) (p : Stmts) (places : List ℕ) (end n at : ℕ) (kind : Kind) → Tokens text ts → IsSpelled Source p (lexemes ts) → ArePlaces Source p (lexemes ts) places → end ≡ length text → IsByteOf ts places end n at → first_offence p ≡ Some (record { node = n; kind = kind }) → Offends text kind at
offends text ts p places end n at kind cut spelled are e is first =
    let found = node_begins p ts places n spelled are (offence_node p n kind first) in
    record {
      tokens = ts;
      cut = cut;
      program = p;
      spelled = spelled;
      node = n;
      first = first;
      token = found.token;
      begins = found.begins;
      place = is found.token found.place ∙ ap (λ z. byte_of ts z found.token) e;
    }

pub undeclared_refused : (text : List ℕ) (ts : List Token) (p : Stmts) (places : List ℕ) (end n at : ℕ) → length text ≤ 1048576 → Tokens text ts → IsSpelled Source p (lexemes ts) → ArePlaces Source p (lexemes ts) places → end ≡ length text → IsByteOf ts places end n at → first_offence p ≡ Some (record { node = n; kind = undeclared }) → Refuses text 8 at
undeclared_refused text ts p places end n at short cut spelled are e is first = within short (not_declared at (offends text ts p places end n at undeclared cut spelled are e is first))

pub twice_refused : (text : List ℕ) (ts : List Token) (p : Stmts) (places : List ℕ) (end n at : ℕ) → length text ≤ 1048576 → Tokens text ts → IsSpelled Source p (lexemes ts) → ArePlaces Source p (lexemes ts) places → end ≡ length text → IsByteOf ts places end n at → first_offence p ≡ Some (record { node = n; kind = twice }) → Refuses text 9 at
twice_refused text ts p places end n at short cut spelled are e is first = within short (bound_twice at (offends text ts p places end n at twice cut spelled are e is first))

pub reserved_refused : (text : List ℕ) (ts : List Token) (p : Stmts) (places : List ℕ) (end n at : ℕ) → length text ≤ 1048576 → Tokens text ts → IsSpelled Source p (lexemes ts) → ArePlaces Source p (lexemes ts) places → end ≡ length text → IsByteOf ts places end n at → first_offence p ≡ Some (record { node = n; kind = reserved }) → Refuses text 10 at
reserved_refused text ts p places end n at short cut spelled are e is first = within short (is_reserved at (offends text ts p places end n at reserved cut spelled are e is first))

pub misplaced_refused : (text : List ℕ) (ts : List Token) (p : Stmts) (places : List ℕ) (end n at : ℕ) → length text ≤ 1048576 → Tokens text ts → IsSpelled Source p (lexemes ts) → ArePlaces Source p (lexemes ts) places → end ≡ length text → IsByteOf ts places end n at → first_offence p ≡ Some (record { node = n; kind = misplaced }) → Refuses text 11 at
misplaced_refused text ts p places end n at short cut spelled are e is first = within short (is_misplaced at (offends text ts p places end n at misplaced cut spelled are e is first))

-- THE FORMS
pub untaken_refused : (text : List ℕ) (ts : List Token) (p : Stmts) (places : List ℕ) (end n at : ℕ) → length text ≤ 1048576 → Tokens text ts → IsSpelled Source p (lexemes ts) → ArePlaces Source p (lexemes ts) places → Clean p → end ≡ length text → IsByteOf ts places end n at → first_untaken p ≡ Some n → Refuses text 13 at
untaken_refused text ts p places end n at short cut spelled are clean e is first =
    let found = node_begins p ts places n spelled are (untaken_node p n first) in
    within short (not_yet at (record {
      program = p;
      accepted = record { short = short; tokens = ts; cut = cut; spelled = spelled; clean = clean };
      node = n;
      first = first;
      token = found.token;
      begins = found.begins;
      place = is found.token found.place ∙ ap (λ z. byte_of ts z found.token) e;
    }))
