-- A text of which a byte more than it may have was read.
use Rattle.std.proofs.Common.{◌≡◌, ◌==◌, ℕ, List, take, subst, arith}
use Rattle.std.proofs.lemmas.List.{take_all, length-take, get_or-take}
use Rattle.actx_grammar.specs.Tree.{Stmts}
use Rattle.actx_top.specs.Accepts.{Takes}
use Rattle.actx_top.specs.Refusals.{Refuses, RefusedAt, too_long, within}
use Rattle.actx_lex.specs.Places.{StandsAt, IsPlace}

-- what is read of a program is all of it
pub takes_whole : (read : ℕ) (bytes : List ℕ) (p : Stmts) → read ≡ 1048577 → Takes bytes p → take read bytes ≡ bytes
takes_whole read bytes p e t = let short = t.accepted.short in take_all read bytes (omega arith)

-- where what is read is a program, that is all
pub takes_back : (read : ℕ) (bytes : List ℕ) (p : Stmts) → read ≡ 1048577 → Takes (take read bytes) p → Takes bytes p
takes_back read bytes p e t =
    let short = t.accepted.short in
    let whole : take read bytes ≡ bytes = take_all read bytes (omega (arith, length-take read bytes)) in
    subst (λ text. Takes text p) whole t

-- and where what is read is refused, all is, with the same number at the same place
first_place : (read : ℕ) (bytes : List ℕ) (line column : ℕ) → read ≡ 1048577 → IsPlace (take read bytes) 0 line column → IsPlace bytes 0 line column
first_place read bytes line column e p = record {
  chars = p.chars;
  is = p.is;
  stands = subst (λ c. StandsAt (c == 10) p.chars line column) (get_or-take read bytes 0 0 (omega (arith, e))) p.stands;
}

refused_back : (read : ℕ) (bytes : List ℕ) (number at line column : ℕ) → read ≡ 1048577 → Refuses (take read bytes) number at → IsPlace (take read bytes) at line column → RefusedAt bytes number line column
refused_back read bytes number at line column e r p = back r p
  where
    back : {number at : ℕ} → Refuses (take read bytes) number at → IsPlace (take read bytes) at line column → RefusedAt bytes number line column
    back (too_long l) p = record { at = 0; refuses = too_long (omega (arith, l, length-take read bytes)); place = first_place read bytes line column e p }
    back (within {number} {at} short cause) p =
        let whole : take read bytes ≡ bytes = take_all read bytes (omega (arith, short, e, length-take read bytes)) in
        subst (λ text. RefusedAt text number line column) whole (record { at = at; refuses = within short cause; place = p })

pub refuses_back : (read : ℕ) (bytes : List ℕ) (number line column : ℕ) → read ≡ 1048577 → RefusedAt (take read bytes) number line column → RefusedAt bytes number line column
refuses_back read bytes number line column e r = refused_back read bytes number r.at line column e r.refuses r.place
