-- What the walk over a whole program answers, and that over a function.
use Rattle.std.proofs.Common.{◌≡◌, ℕ, ◌+◌, List, [], ◌∷◌, ◌++◌, Option, Some, None, refl, sym, ◌∙◌, ap, append-nil}
use Rattle.actx_grammar.specs.Static.{Declared, Offence, Kind, undeclared, twice, reserved, misplaced, outermost, offences, first_offence, list_declared}
use Rattle.actx_grammar.specs.Nodes.{stmts_nodes}
use Rattle.actx_grammar.specs.Tree.{Code, Stmts}
use Rattle.actx_scope.specs.declared.fault.CheckFault.{CheckFault}
use Rattle.actx_scope.specs.declared.walk.state.Walk.{Walk}
use Rattle.actx_scope.specs.Faults.{fault_of_kind, first_fault}
use Rattle.actx_scope.specs.Links.{links, free_of, stmts_links, function_links}
use Rattle.actx_scope.specs.Machine.{State, start, block_walk, function_walk}
use Rattle.actx_scope.specs.States.{state}
use Rattle.actx_scope.proofs.Runs.{Does}
use Rattle.actx_scope.proofs.TreeRuns.{block_runs, stmts_runs, function_runs}

block_does : (ss : Stmts) → Does start (block_walk ss start) (offences ss) outermost (0 + stmts_nodes ss) (stmts_links (list_declared 0 ss ++ []) 0 ss)
block_does ss = (block_runs ss (stmts_runs ss)).run start

whole : (ss : Stmts) → stmts_links (list_declared 0 ss ++ []) 0 ss ≡ links ss
whole ss = ap (λ (ks : List Declared). stmts_links ks 0 ss) (append-nil (list_declared 0 ss))

none_offend : (os : List Offence) → first_fault os ≡ None → os ≡ []
none_offend [] e = refl
none_offend (o ∷ os) e = absurd cc

module _ (ss : Stmts) (w : Walk) (e : state w ≡ block_walk ss start) where
  pub walk_faults : (f : Option CheckFault) → w.fault ≡ f → first_fault (offences ss) ≡ f
  unfolding state
  walk_faults f h = sym (ap (λ (t : State). t.fault) e ∙ (block_does ss).faulted refl) ∙ h

  pub walk_links : w.links.items ≡ links ss
  unfolding state
  walk_links = ap (λ (t : State). t.links) e ∙ (block_does ss).linked_more ∙ whole ss

  pub walk_clean : w.fault ≡ None → offences ss ≡ []
  walk_clean h = none_offend (offences ss) (walk_faults None h)

  pub walk_declares : w.fault ≡ None → free_of (links ss) ≡ []
  walk_declares h = ap free_of (sym (whole ss)) ∙ (block_does ss).resolved refl (walk_clean h)

-- a function, where nothing round it is declared
pub function_walk_links : (f : Code) (w : Walk) → state w ≡ function_walk f start → w.links.items ≡ function_links [] 0 f
unfolding state
function_walk_links f w e = ap (λ (t : State). t.links) e ∙ ((function_runs f).run start).linked_more

-- THE FIRST OFFENCE
abbrev offence : ℕ → Kind → Offence
offence n k = record { node = n; kind = k }

same_offence : (a k : Kind) (m n : ℕ) → fault_of_kind a m ≡ fault_of_kind k n → offence m a ≡ offence n k
same_offence undeclared undeclared m n e = let h : m ≡ n = cc in ap (λ (z : ℕ). offence z undeclared) h
same_offence twice twice m n e = let h : m ≡ n = cc in ap (λ (z : ℕ). offence z twice) h
same_offence reserved reserved m n e = let h : m ≡ n = cc in ap (λ (z : ℕ). offence z reserved) h
same_offence misplaced misplaced m n e = let h : m ≡ n = cc in ap (λ (z : ℕ). offence z misplaced) h
same_offence undeclared twice m n e = absurd cc
same_offence undeclared reserved m n e = absurd cc
same_offence undeclared misplaced m n e = absurd cc
same_offence twice undeclared m n e = absurd cc
same_offence twice reserved m n e = absurd cc
same_offence twice misplaced m n e = absurd cc
same_offence reserved undeclared m n e = absurd cc
same_offence reserved twice m n e = absurd cc
same_offence reserved misplaced m n e = absurd cc
same_offence misplaced undeclared m n e = absurd cc
same_offence misplaced twice m n e = absurd cc
same_offence misplaced reserved m n e = absurd cc

pub first_is : (ss : Stmts) (k : Kind) (n : ℕ) → first_fault (offences ss) ≡ Some (fault_of_kind k n) → first_offence ss ≡ Some (record { node = n; kind = k })
first_is ss k n = by (offences ss) refl
  where
    by : (os : List Offence) → offences ss ≡ os → first_fault os ≡ Some (fault_of_kind k n) → first_offence ss ≡ Some (record { node = n; kind = k })
    by [] e h = absurd cc
    by (o ∷ os) e h =
        let g : fault_of_kind o.kind o.node ≡ fault_of_kind k n = cc in
        rw e (ap (λ (p : Offence). Some p) (same_offence o.kind k o.node n g))
