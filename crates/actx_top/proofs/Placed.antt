-- Where the node of a refusal begins.
use Rattle.std.proofs.Common.{◌≡◌, ◌<◌, ◌≤◌, ℕ, List, [], ◌∷◌, length, get_or, zero, suc, Option, None, Some, refl, sym, ap, ◌∙◌, subst, arith}
use Rattle.std.specs.Prelude.{All, slice_get}
use Rattle.std.proofs.lemmas.List.Elements.{All-head}
use Rattle.std.proofs.lemmas.Option.{slice_get-get_or}
use Rattle.actx_grammar.specs.declared.side.Side.TheVariants.{Source}
use Rattle.actx_grammar.specs.Grammar.{deepest, most, IsSpelled}
use Rattle.actx_grammar.specs.Nodes.{stmts_nodes}
use Rattle.actx_grammar.specs.Places.{stmts_places}
use Rattle.actx_grammar.specs.Static.{Kind, Offence, offences, first_offence}
use Rattle.actx_grammar.specs.Tree.{Stmts}
use Rattle.actx_laws.proofs.NodeOffences.{in_order}
use Rattle.actx_laws.proofs.NodePlaces.{places as every_place}
use Rattle.actx_lex.specs.declared.token.Token.{Token}
use Rattle.actx_lex.specs.Lexemes.{lexemes}
use Rattle.actx_parse.specs.Answers.{ArePlaces}
use Rattle.actx_top.specs.Refusals.{byte_of, BeginsAt}
use Rattle.actx_top.proofs.Boundaries.{byte_past}

-- the token at which a node begins
pub record NodeBegins (p : Stmts) (ts : List Token) (places : List ℕ) (n : ℕ) : Type 0 where
  pub token : ℕ
  pub place : slice_get places n ≡ Some token
  pub begins : BeginsAt p ts n token

pub node_begins : (p : Stmts) (ts : List Token) (places : List ℕ) (n : ℕ) → IsSpelled Source p (lexemes ts) → ArePlaces Source p (lexemes ts) places → n < stmts_nodes p → NodeBegins p ts places n
node_begins p ts places n d are h =
    let same : places ≡ stmts_places 0 d = are d in
    let long : length (stmts_places 0 d) ≡ stmts_nodes p = every_place Source (most Source) (deepest Source) 0 p (lexemes ts) d in
    let found : slice_get places n ≡ Some (get_or places n 0) = slice_get-get_or places n 0 (omega (arith, ap length same, long, h)) in
    record { token = get_or places n 0; place = found; begins = λ e. ap (λ z. slice_get z n) (sym (are e)) ∙ found }

-- THE FIRST OFFENCE
none_first : (p : Stmts) → offences p ≡ [] → first_offence p ≡ None
none_first p e = cc

head_first : (p : Stmts) (q : Offence) (os : List Offence) → offences p ≡ q ∷ os → first_offence p ≡ Some q
head_first p q os e = cc

none_some : (f : Option Offence) (o : Offence) → f ≡ None → f ≡ Some o → ⊥
none_some f o n s = absurd cc

same_some : (f : Option Offence) (q o : Offence) → f ≡ Some q → f ≡ Some o → q ≡ o
same_some f q o a b = cc

first_is : (p : Stmts) (o : Offence) (os : List Offence) → offences p ≡ os → first_offence p ≡ Some o → All (λ (q : Offence). q.node < stmts_nodes p) os → o.node < stmts_nodes p
first_is p o [] e f h = absurd (none_some (first_offence p) o (none_first p e) f)
first_is p o (q ∷ os) e f h = subst (λ (z : Offence). z.node < stmts_nodes p) (same_some (first_offence p) q o (head_first p q os e) f) (All-head (λ (z : Offence). z.node < stmts_nodes p) q os h)

pub offence_node : (p : Stmts) (n : ℕ) (kind : Kind) → first_offence p ≡ Some (record { node = n; kind = kind }) → n < stmts_nodes p
offence_node p n kind f = first_is p (record { node = n; kind = kind }) (offences p) refl f (in_order p).0

-- THE BYTE OF A TOKEN
byte_found : (ts : List Token) (t : Token) (end i : ℕ) → slice_get ts i ≡ Some t → byte_of ts end i ≡ t.at
byte_found [] t end i h = absurd cc
byte_found (u ∷ ts) t end zero h = let same : u ≡ t = cc in ap (λ (z : Token). z.at) same
byte_found (u ∷ ts) t end (suc i) h = byte_found ts t end i h

pub byte_read : (us ts : List Token) (t : Token) (end i : ℕ) → us ≡ ts → i < length us → t ≡ get_or us i t → t.at ≡ byte_of ts end i
byte_read us ts t end i e lt h =
    let found : slice_get us i ≡ Some t = slice_get-get_or us i t lt ∙ ap Some (sym h) in
    sym (byte_found ts t end i (subst (λ z. slice_get z i ≡ Some t) e found))

pub byte_none : (us ts : List Token) (end i : ℕ) → us ≡ ts → length us ≤ i → end ≡ byte_of ts end i
byte_none us ts end i e le = sym (byte_past ts end i (subst (λ z. length z ≤ i) e le))
