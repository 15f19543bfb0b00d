-- The rows that begin a list in a scope of its own, and that make a function with a name of its own.
use Rattle.std.proofs.Common.{ℕ, true, List, [], ◌∷◌, ◌++◌, length}
use Rattle.actx_match.proofs.Pairing.{paired_weaker, paired_more, paired_place}
use Rattle.actx_data.specs.declared.value.Value.{Value}
use Rattle.actx_data.specs.declared.value.Value.TheVariants as v
use Rattle.actx_grammar.specs.declared.operators.FunctionKind.{FunctionKind}
use Rattle.actx_grammar.specs.Tree.{Stmts}
use Rattle.actx_heap.specs.Things.{Function}
use Rattle.actx_table.specs.Answers.{gives}
use Rattle.actx_table.specs.Low.{p_}
use Rattle.actx_table.specs.Renamed.{RunsAtOnce, NamesAre, StmtsAre, no_stmts, more_stmts}
use Rattle.actx_table.specs.Scopes.{fixed_cell, with_list}
use Rattle.actx_table.specs.State.{Cell, Closure, Frame, Store}
use Rattle.actx_table.specs.Statements.{exec_list}
use Rattle.actx_table.specs.Related.{World, ValueIs, thing_is, some_is, more_scopes, CellsAre, no_cells, more_cells, ThingIs, closure_is, ForValue, ForCompletion, list_is, given_is, here, MoveIs, goes_is}
use Rattle.actx_table.proofs.Same.Growth.{Adds, adds_scope, adds_thing, grows_on, thing_world, scope_world, grows_thing, grows_scope, later_adds, value_later, chain_later, cells_later, thing_later, frames_later}
use Rattle.actx_table.proofs.Same.Stores.{store_added, new_place}
use Rattle.actx_table.proofs.Same.Entered.{entered_later, list_entered}
use Rattle.actx_table.proofs.Same.At.{At, executes, normal_at}

module _ {w : World} where
  -- a list's names and functions are there, and its first statement is executed
  pub list_rule : {ss ts : Stmts} {fs gs : List Frame} {s r : Store} → StmtsAre ss ts → At w ForCompletion fs gs s r → MoveIs (exec_list ss fs s) (exec_list ts gs r)
  list_rule no_stmts h = normal_at h
  list_rule {ss = ss} {ts = ts} {fs = fs} {gs = gs} {s = s} {r = r} (more_stmts x m) h =
      let e = list_entered w s r h.store ss ts (more_stmts x m) h.chain h.receiver in
      let f = frames_later (entered_later w s r (with_list s ss) (with_list r ts) e) h.frames in
      executes x (record { frames = list_is m (chain_later w e.world e.adds.grows _ _ h.chain) f; chain = e.chain; receiver = e.receiver; store = e.store })

  -- a function's own name is a constant in a scope between
  pub named_function : {kind : FunctionKind} {xs ys : List (List ℕ)} {ss ts : Stmts} {fs gs : List Frame} {s r : Store} {p q : Value} (x : List ℕ) → RunsAtOnce kind → NamesAre xs ys → StmtsAre ss ts → ValueIs w p q → At w ForValue fs gs s r
      → MoveIs (gives (v.Thing (length s.heap)) fs (record s { scopes = s.scopes ++ (fixed_cell x (v.Thing (length s.heap)) ∷ []) ∷ []; heap = s.heap ++ Function (Closure kind xs ss (length s.scopes ∷ s.scope) p) ∷ [] }))
      (gives (v.Thing (length r.heap)) gs (record r { scopes = r.scopes ++ (fixed_cell (p_ x) (v.Thing (length r.heap)) ∷ []) ∷ []; heap = r.heap ++ Function (Closure kind ys ts (length r.scopes ∷ r.scope) q) ∷ [] }))
  named_function {kind = kind} {xs = xs} {ys = ys} {ss = ss} {ts = ts} {fs = fs} {gs = gs} {s = s} {r = r} {p = p} {q = q} x runs n m o h =
      let st = h.store in
      let w1 = thing_world w (length r.heap) in
      let w2 = scope_world w1 (length r.scopes) in
      let grows = grows_on w w1 w2 (grows_thing w (length r.heap)) (grows_scope w1 (length r.scopes)) in
      let adds : Adds w w2 r.heap r.scopes = record { grows = grows; new_things = λ i k e. (adds_thing w r.heap r.scopes).new_things i k e; new_scopes = λ i k e. (adds_scope w r.heap r.scopes).new_scopes i k e } in
      let a = Function (Closure kind xs ss (length s.scopes ∷ s.scope) p) in
      let b = Function (Closure kind ys ts (length r.scopes ∷ r.scope) q) in
      let cs : List Cell = fixed_cell x (v.Thing (length s.heap)) ∷ [] in
      let ds : List Cell = fixed_cell (p_ x) (v.Thing (length r.heap)) ∷ [] in
      let value : ValueIs w2 (v.Thing (length s.heap)) (v.Thing (length r.heap)) = thing_is (length s.heap) (length r.heap) (new_place w s r st) in
      let chain = more_scopes (length s.scopes) (length r.scopes) (paired_place (CellsAre w) w.scopes s.scopes r.scopes st.scopes) (chain_later w w2 grows s.scope r.scope h.chain) in
      let heap = paired_more (ThingIs w2) w.things s.heap r.heap a b (closure_is runs n m chain (value_later w w2 grows p q o)) (paired_weaker (ThingIs w) (ThingIs w2) w.things s.heap r.heap (thing_later w w2 grows) st.heap) in
      let scopes = paired_more (CellsAre w2) w.scopes s.scopes r.scopes cs ds (more_cells x true (some_is value) no_cells) (paired_weaker (CellsAre w) (CellsAre w2) w.scopes s.scopes r.scopes (cells_later w w2 grows) st.scopes) in
      goes_is w2 (given_is value (frames_later (later_adds w w2 r.heap (b ∷ []) r.scopes (ds ∷ []) adds) h.frames))
      (here (chain_later w w2 grows s.scope r.scope h.chain) (value_later w w2 grows s.receiver r.receiver h.receiver))
      (store_added w w2 s r st adds s.scope r.scope s.receiver r.receiver (s.heap ++ a ∷ []) (b ∷ []) (s.scopes ++ cs ∷ []) (ds ∷ []) heap scopes)
