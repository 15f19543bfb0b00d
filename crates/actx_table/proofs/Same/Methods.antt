-- The rows of a variable's methods: get, run entered or refused, and run left by a value or a throw.
use Rattle.std.proofs.Common.{◌≡◌, ℕ, suc, ◌+◌, ◌*◌, ◌≤◌, Bool, true, false, List, [], ◌++◌, length, Option, Some, None, refl, sym, ap, ◌∙◌, subst, arith}
use Rattle.std.specs.Prelude.{nat_eq, if◌then◌else◌, slice_get, slice_set}
use Rattle.std.proofs.lemmas.Option.{slice_get_within}
use Rattle.actx_match.specs.Pairing.{IsOwned}
use Rattle.actx_data.specs.declared.shown.ErrorName.TheVariants.{TypeError}
use Rattle.actx_data.specs.declared.trace.TraceEvent.TheVariants.{Get}
use Rattle.actx_data.specs.declared.value.Value.{Value}
use Rattle.actx_data.specs.declared.value.Value.TheVariants as v
use Rattle.actx_grammar.specs.declared.side.Side.TheVariants.{Plain}
use Rattle.actx_heap.specs.Things.{Thing, Failure}
use Rattle.actx_agent.specs.Mapping.{mapped, with_mapped}
use Rattle.actx_table.specs.Agent.{this_variable, entry_at}
use Rattle.actx_table.specs.Answers.{throws, with_thing, code_of}
use Rattle.actx_table.specs.Expressions.{call_code}
use Rattle.actx_table.specs.Forms.{first, rest, gets, runs}
use Rattle.actx_table.specs.Machine.{row, at}
use Rattle.actx_table.specs.PreludeState.{now_record, state_record, get_code, run_code, MappingIs, running}
use Rattle.actx_table.specs.Related.{World, ValueIs, undefined_is, ArgumentsAre, throw_is, ChainIs, failure_is, MapsAre, no_maps, more_maps, KeptAt, ForValue, FramesAre, mapping_frame_is, fits_throw, TaskIs, given_is, done_is, call_is, ScopeIs, here, away_call, StoreIs, doing_is, refusing_is, Related}
use Rattle.actx_table.specs.Laws.{Laws, Equal, Refuses, Comes}
use Rattle.actx_table.specs.Scopes.{option_or}
use Rattle.actx_table.specs.Showing.{more_shown}
use Rattle.actx_table.specs.State.{Code, Task, Given, Call, Frame, Variable, Store, Goes}
use Rattle.actx_table.proofs.Same.Growth.{grows_same, grows_thing, thing_world, mapping_lasts, frames_later, lasts_front, later_thing, later_heap, later_cells}
use Rattle.actx_table.proofs.Same.Alike.{show_more_same}
use Rattle.actx_table.proofs.Same.Operators.{not_callable_same, callable_same}
use Rattle.actx_table.proofs.Same.Stores.{ready, store_thing, new_value, store_moved, store_shown, store_cells, store_nodes, lasts_now, store_now}
use Rattle.actx_table.proofs.Same.Variables.{VariableIs, no_variable, a_variable, this_is}
use Rattle.actx_table.proofs.Same.Joins.{Joins, landed, landed_with, to_done, to_given, first_is, rest_is, rest_shorter, six_are}

-- MAPPINGS
module _ (w : World) where
  value_if : (b : Bool) (a c d e : Value) (o p : Option Value) → ValueIs w a c → ValueIs w (option_or o d) (option_or p e) → ValueIs w (option_or (if b then Some a else o) d) (option_or (if b then Some c else p) e)
  value_if true a c d e o p h k = h
  value_if false a c d e o p h k = k

  pub mapped_is : (n : ℕ) (d e : Value) (ms ns : List (ℕ × Value)) → ValueIs w d e → MapsAre w ms ns → ValueIs w (option_or (mapped n ms) d) (option_or (mapped n ns) e)
  mapped_is n d e ms ns h no_maps = h
  mapped_is n d e ms ns h (more_maps m k t) = value_if (nat_eq m n) _ _ d e _ _ k (mapped_is n d e _ _ h t)

  maps_if : (b : Bool) (ms ks ns ls : List (ℕ × Value)) → MapsAre w ms ns → MapsAre w ks ls → MapsAre w (if b then ms else ks) (if b then ns else ls)
  maps_if true ms ks ns ls h k = h
  maps_if false ms ks ns ls h k = k

  pub with_mapped_is : (n : ℕ) (x y : Value) (ms ns : List (ℕ × Value)) → ValueIs w x y → MapsAre w ms ns → MapsAre w (with_mapped n x ms) (with_mapped n y ns)
  with_mapped_is n x y ms ns h no_maps = more_maps n h no_maps
  with_mapped_is n x y ms ns h (more_maps m k t) = maps_if (nat_eq m n) _ _ _ _ (more_maps n h t) (more_maps m k (with_mapped_is n x y _ _ h t))

  pub maps_long : (ms ns : List (ℕ × Value)) → MapsAre w ms ns → length ns ≡ length ms
  maps_long ms ns no_maps = refl
  maps_long ms ns (more_maps m k t) = ap suc (maps_long _ _ t)

module _ (laws : Laws) (w : World) where
  -- a receiver that is no variable
  abbrev pub refused : (n : ℕ) (g : Code) (a : Task) (y : Value) (ws : List Value) (fs gs : List Frame) (s r : Store) → Refuses g r y ws gs → FramesAre w r.heap r.scopes ForValue fs gs → ScopeIs w a fs s.scope s.receiver r.scope r.receiver → StoreIs w s r → Joins n (throws TypeError fs s) (call_code Plain (Some g) y ws gs r)
  refused n g a y ws fs gs s r d f c st =
      let w' = thing_world w (length r.heap) in
      let b = Failure TypeError [] in
      let s1 = with_thing s b in
      let r1 = with_thing r b in
      let st1 = store_thing w s r st b b (failure_is TypeError []) in
      landed n 100 _ w' _ _ fs gs s1 (record r1 { scopes = r.scopes ++ d.cells }) d.leads (omega arith)
      (done_is ForValue (fits_throw _) (throw_is (new_value w s r st)) (frames_later (later_cells w' r1.heap r.scopes d.cells) (frames_later (later_thing w r.heap r.scopes b) f)))
      (to_done w w' (grows_thing w (length r.heap)) _ a fs _ _ _ _ c)
      (store_cells w' s1 r1 st1 d.cells r.scope r.receiver)

  -- GET
  pub getting : (x : Option Variable) (e : Value) (a : Task) (y : Value) (ws : List Value) (fs gs : List Frame) (s r : Store) (st : StoreIs w s r) → VariableIs w r.heap x e → entry_at y st.agent.entries ≡ e → FramesAre w r.heap r.scopes ForValue fs gs → ScopeIs w a fs s.scope s.receiver r.scope r.receiver → Joins (length s.mapping) (gets x fs s) (call_code Plain (Some get_code) y ws gs r)
  getting x e a y ws fs gs s r st no_variable q f c = refused (length s.mapping) get_code a y ws fs gs s r (laws.get_refuses r y ws gs (ready w s r st) q) f c st
  getting x e a y ws fs gs s r st (a_variable k n p {a = d} {b = d'} h g) q f c =
      let places = st.agent.places in
      let l = laws.gets r y ws gs (ready w s r st) p n d' places q g st.agent.mapping_is in
      let old = option_or (mapped n s.mapping) d in
      let is : ValueIs w old l.value = subst (ValueIs w old) l.is (mapped_is w n d d' s.mapping places h st.agent.maps_are) in
      let long = maps_long w s.mapping places st.agent.maps_are in
      let s1 = record s { shown = more_shown s.shown old } in
      let r1 = record r { shown = more_shown r.shown l.value } in
      let st1 = store_shown w s r st old l.value is in
      landed_with (length s.mapping) (100 * suc (length places)) _ _ _ w _ _ fs gs s1 (record r1 { scopes = r.scopes ++ l.cells })
      (ap (Get n) (show_more_same w s.heap r.heap st.heap old l.value is s.shown r.shown st.shown)) l.leads (omega (arith, long))
      (given_is is (frames_later (later_cells w r.heap r.scopes l.cells) f))
      (to_given w w (grows_same w) _ a fs _ _ _ _ c f)
      (store_cells w s1 r1 st1 l.cells r.scope r.receiver)

  -- RUN, ENTERED: what can be called is about to be called in its mapping
  calling : (k n p : ℕ) (d d' y : Value) (vs ws : List Value) (fs gs : List Frame) (s r : Store) (st : StoreIs w s r) → ValueIs w d d' → slice_get r.heap p ≡ Some (state_record n d') → entry_at y st.agent.entries ≡ v.Thing p → (code_of s.heap (first (rest vs)) ≡ None → ⊥) → length vs ≤ 8 → ArgumentsAre w vs ws → FramesAre w r.heap r.scopes ForValue fs gs → ChainIs w s.scope r.scope → ValueIs w s.receiver r.receiver → Joins (length s.mapping) (runs (Some (record { place = k; number = n; default = d })) vs fs s) (call_code Plain (Some run_code) y ws gs r)
  calling k n p d d' y vs ws fs gs s r st h g q some long hs f c o =
      let places = st.agent.places in
      let called = first_is w _ _ (rest_is w vs ws hs) in
      let l = laws.enters r y ws gs (ready w s r st) p n d' places q g (callable_same w s.heap r.heap st.heap _ _ called some) st.agent.mapping_is in
      let size = maps_long w s.mapping places st.agent.maps_are in
      let ms = with_mapped n (first vs) s.mapping in
      let ns = with_mapped n (first ws) places in
      let r1 = record r { heap = r.heap ++ l.nodes } in
      let st1 = store_nodes w s r st l.nodes in
      let heap2 = slice_set r1.heap (3 + w.before) (now_record l.mapping (length s.variables)) in
      let r2 = record r1 { heap = heap2 } in
      let s2 = record s { mapping = ms } in
      let st2 = store_now w s r1 st1 ms ns l.mapping (with_mapped_is w n (first vs) (first ws) s.mapping places (first_is w vs ws hs) st.agent.maps_are) l.is in
      let lasts1 = lasts_front r.heap l.nodes in
      let lasts2 = lasts_now w s r1 st1 l.mapping (length s.variables) in
      let old1 = mapping_lasts r.heap r1.heap lasts1 places st.agent.current st.agent.mapping_is in
      let old2 = mapping_lasts r1.heap heap2 lasts2 places st.agent.current old1 in
      let own : IsOwned w.scopes l.scope = λ i e2. let p2 = st.scopes.pair i l.scope e2 in let within = slice_get_within r.scopes l.scope p2.1 p2.3 in let new = l.new in omega (arith, within, new) in
      let f1 = frames_later (later_heap w r.heap r.scopes r1.heap lasts1) f in
      let f2 = frames_later (later_heap w r1.heap r.scopes heap2 lasts2) f1 in
      let f3 = frames_later (later_cells w heap2 r.scopes l.cells) f2 in
      let left = rest_is w _ _ (rest_is w vs ws hs) in
      let short = rest_shorter w 6 (rest vs) (rest_shorter w 7 vs long) in
      landed (length s.mapping) (200 * suc (length places)) _ w _ _ _ _ s2 (record r2 { scope = l.chain; receiver = y; scopes = r.scopes ++ l.cells }) l.leads (omega (arith, size))
      (call_is (omega (arith, short)) called undefined_is (six_are w _ _ short left)
      (mapping_frame_is l.scope st.agent.maps_are old2 (record { cells = l.own; has = l.has; kept = l.old; free = l.free; own = own }) c o f3))
      (away_call s.scope s.receiver l.chain y)
      (store_cells w s2 r2 st2 l.cells l.chain y)

  -- what can't be called: the source's mapping changes and its call comes next, while the target is in the call of run
  refusing : (k n p : ℕ) (d d' y : Value) (vs ws : List Value) (fs gs : List Frame) (s r : Store) (st : StoreIs w s r) → slice_get r.heap p ≡ Some (state_record n d') → entry_at y st.agent.entries ≡ v.Thing p → code_of s.heap (first (rest vs)) ≡ None → ArgumentsAre w vs ws → FramesAre w r.heap r.scopes ForValue fs gs → ChainIs w s.scope r.scope → ValueIs w s.receiver r.receiver → Joins (length s.mapping) (runs (Some (record { place = k; number = n; default = d })) vs fs s) (call_code Plain (Some run_code) y ws gs r)
  refusing k n p d d' y vs ws fs gs s r st g q none hs f c o =
      let called = first_is w _ _ (rest_is w vs ws hs) in
      let refuses = laws.run_refuses_callee r y ws gs (ready w s r st) p n d' q g (not_callable_same w s.heap r.heap st.heap _ _ called none) in
      record {
        count = 0;
        kept = λ tr. record { now = refusing_is w (first (rest vs)) y (rest (rest vs)) ws (with_mapped n (first vs) s.mapping) (record { none = none; refuses = refuses; frames = f; chain = c; receiver = o; store = st }); trace = refl };
        within = omega arith;
      }

  entering : (x : Option Variable) (e y : Value) (vs ws : List Value) (fs gs : List Frame) (s r : Store) (st : StoreIs w s r) → VariableIs w r.heap x e → entry_at y st.agent.entries ≡ e → length vs ≤ 8 → ArgumentsAre w vs ws → FramesAre w r.heap r.scopes ForValue fs gs → ChainIs w s.scope r.scope → ValueIs w s.receiver r.receiver → Joins (length s.mapping) (runs x vs fs s) (call_code Plain (Some run_code) y ws gs r)
  entering x e y vs ws fs gs s r st no_variable q long hs f c o = refused (length s.mapping) run_code (Given v.Undefined) y ws fs gs s r (laws.run_refuses r y ws gs (ready w s r st) q) f (here c o) st
  entering x e y vs ws fs gs s r st (a_variable k n p {a = d} {b = d'} h g) q long hs f c o = by (code_of s.heap (first (rest vs))) refl
    where
      by : (found : Option Code) → code_of s.heap (first (rest vs)) ≡ found → Joins (length s.mapping) (runs (Some (record { place = k; number = n; default = d })) vs fs s) (call_code Plain (Some run_code) y ws gs r)
      by None none = refusing k n p d d' y vs ws fs gs s r st g q none hs f c o
      by (Some code) some = calling k n p d d' y vs ws fs gs s r st h g q (λ none. let z = sym some ∙ none in absurd (cc)) long hs f c o

  pub run_called : (u x y : Value) (vs ws : List Value) (fs gs : List Frame) (s r : Store) (st : StoreIs w s r) → ValueIs w x y → length vs ≤ 8 → ArgumentsAre w vs ws → FramesAre w r.heap r.scopes ForValue fs gs → ScopeIs w (Call u x vs) fs s.scope s.receiver r.scope r.receiver → Joins (length s.mapping) (runs (this_variable x s.variables) vs fs s) (call_code Plain (Some run_code) y ws gs r)
  run_called u x y vs ws fs gs s r st h long hs f (here c o) = entering _ _ y vs ws fs gs s r st (this_is w s r st x y h) refl long hs f c o
  run_called u x y vs ws fs gs s r st undefined_is long hs f (away_call b o c p) = refused (length s.mapping) run_code (Call u v.Undefined vs) v.Undefined ws fs gs s r (laws.run_refuses r v.Undefined ws gs (ready w s r st) refl) f (away_call b o c p) st

  -- RUN, LEFT
  pub departing : (a b : Task) (k : ℕ) (ms places : List (ℕ × Value)) (m x y : Value) (up over : List ℕ) (fs gs : List Frame) (s r : Store) → Comes b → MapsAre w ms places → MappingIs Equal r.heap places m → KeptAt w r.scopes k m → ChainIs w up over → ValueIs w x y → FramesAre w r.heap r.scopes ForValue fs gs → ((heap : List (Thing Code)) (scopes : List _) → FramesAre w heap scopes ForValue fs gs → TaskIs w heap scopes a fs b gs) → StoreIs w s r → Joins (length s.mapping) (Goes a fs (record s { mapping = ms; scope = up; receiver = x })) (row Plain b (running k over y gs) r)
  departing a b k ms places m x y up over fs gs s r come maps h kept c o f task st =
      let l = laws.departs r b k over y gs m (ready w s r st) kept.cells come kept.has kept.kept kept.free in
      let s1 = record s { mapping = ms } in
      let heap1 = slice_set r.heap (3 + w.before) (now_record m (length s.variables)) in
      let r1 = record r { heap = heap1 } in
      let st1 = store_now w s r st ms places m maps h in
      let r2 = record r1 { scope = over; receiver = y; scopes = r.scopes ++ l.cells } in
      let st2 = store_cells w s1 r1 st1 l.cells over y in
      let st3 = store_moved w s1 r2 st2 up over x y in
      let f1 = frames_later (later_heap w r.heap r.scopes heap1 (lasts_now w s r st m (length s.variables))) f in
      let f2 = frames_later (later_cells w heap1 r.scopes l.cells) f1 in
      record {
        count = l.count;
        kept = λ tr. subst (Related (at a fs (record s { mapping = ms; scope = up; receiver = x }) tr)) (sym (l.by tr)) (record { now = doing_is w (task heap1 (r.scopes ++ l.cells) f2) (here c o) st3; trace = refl });
        within = let within = l.within in omega (arith, within);
      }
