-- Stores that correspond go on to correspond where both change, and where the prelude changes what is its own.
use Rattle.std.proofs.Common.{◌≡◌, ℕ, ◌+◌, List, [], ◌∷◌, ◌++◌, length, Some, refl, sym, ap, ◌∙◌, subst}
use Rattle.std.specs.Prelude.{slice_get, slice_set}
use Rattle.actx_match.specs.Pairing.{Paired, IsOwned}
use Rattle.actx_match.proofs.Pairing.{get_front, get_set_same, get_set_other, paired_weaker, paired_extra, paired_owned, paired_more, paired_place, paired_set}
use Rattle.actx_data.specs.declared.event.Event.{Event}
use Rattle.actx_data.specs.declared.value.Value.{Value}
use Rattle.actx_data.specs.declared.value.Value.TheVariants as v
use Rattle.actx_heap.specs.Things.{Prop, Thing, Plain}
use Rattle.actx_table.specs.Agent.{weak_at}
use Rattle.actx_table.specs.Answers.{with_thing}
use Rattle.actx_table.specs.Laws.{Equal}
use Rattle.actx_table.specs.PreludeState.{IsBase, now_record, MappingIs, Ready}
use Rattle.actx_table.specs.Showing.{more_shown}
use Rattle.actx_table.specs.State.{Cell, Code, Variable, Weak, Store}
use Rattle.actx_table.specs.Related.{World, ValueIs, thing_is, ChainIs, more_scopes, CellsAre, ThingIs, MapsAre, PreludeIs, AgentIs, StoreIs}
use Rattle.actx_table.proofs.Same.Growth.{Grows, grows_same, thing_world, scope_world, grows_thing, grows_scope, Lasts, lasts_same, lasts_front, lasts_set, mapping_lasts, value_later, chain_later, cells_later, thing_later, maps_later, shown_later, variables_later, owned_more, Adds, owned_adds}
use Rattle.actx_table.proofs.Same.Alike.{more_shown_is}

pub prelude_later : (before : ℕ) (heap heap' : List (Thing Code)) → Lasts heap heap' → PreludeIs before heap → PreludeIs before heap'
prelude_later before heap heap' l h =
    record {
      weak_get_at = l.says 0 _ refl h.weak_get_at;
      weak_set_at = l.says 1 _ refl h.weak_set_at;
      states_at = l.says (2 + before) _ refl h.states_at;
      find_at = l.says (4 + before) _ refl h.find_at;
      with_at = l.says (5 + before) _ refl h.with_at;
      make_at = l.says (8 + before) _ refl h.make_at;
      variable_at = l.says (9 + before) _ refl h.variable_at;
    }

-- the agent in a later world and heap, where the record of the current mapping stays
abbrev pub agent_later : (w w' : World) → Grows w w' → (heap heap' : List (Thing Code)) → Lasts heap heap' → (weak : List Weak) (mapping : List (ℕ × Value)) (variables : List Variable) (agent : AgentIs w heap weak mapping variables) → slice_get heap' (3 + w.before) ≡ Some (now_record agent.current (length variables)) → IsOwned w'.things (3 + w.before) → AgentIs w' heap' weak mapping variables
agent_later w w' grows heap heap' lasts weak mapping variables agent now own =
    record {
      entries = agent.entries;
      entries_at = subst (λ n. weak_at (2 + n) weak ≡ Some agent.entries) (sym grows.before) agent.entries_at;
      variables_are = variables_later w w' grows heap heap' lasts _ _ agent.variables_are;
      current = agent.current;
      now_at = subst (λ n. slice_get heap' (3 + n) ≡ Some (now_record agent.current (length variables))) (sym grows.before) now;
      now_own = subst (λ n. IsOwned w'.things (3 + n)) (sym grows.before) own;
      places = agent.places;
      maps_are = maps_later w w' grows _ _ agent.maps_are;
      mapping_is = mapping_lasts heap heap' lasts _ _ agent.mapping_is;
    }

-- a store that corresponds is ready for the prelude's functions
abbrev pub ready : (w : World) (s r : Store) → StoreIs w s r → Ready r
ready w s r st = record { before = w.before; top = st.top.cells; top_at = st.top.has; base = st.top.base; entries = st.agent.entries; states_at = st.prelude.states_at; entries_at = st.agent.entries_at; current = st.agent.current; made = length s.variables; now_at = st.agent.now_at; weak_get_at = st.prelude.weak_get_at; weak_set_at = st.prelude.weak_set_at; find_at = st.prelude.find_at; with_at = st.prelude.with_at; make_at = st.prelude.make_at }

-- both change, in a later world; the firm things and the program's own scope stay
abbrev pub store_by : (w w' : World) (s r : Store) (st : StoreIs w s r) → Grows w w' → (b c : List ℕ) (x y : Value) (heap heap' : List (Thing Code)) (scopes scopes' : List (List Cell)) (weak : List Weak) (mapping : List (ℕ × Value)) (variables : List Variable) → Lasts r.heap heap' → slice_get scopes' 0 ≡ Some st.top.cells → Paired (ThingIs w') w'.things heap heap' → Paired (CellsAre w') w'.scopes scopes scopes' → AgentIs w' heap' weak mapping variables → StoreIs w' (record s { scope = b; receiver = x; heap = heap; scopes = scopes; mapping = mapping; variables = variables }) (record r { scope = c; receiver = y; heap = heap'; scopes = scopes'; weak = weak })
store_by w w' s r st grows b c x y heap heap' scopes scopes' weak mapping variables lasts has things cells agent =
    record {
      scopes = cells;
      heap = things;
      shown = shown_later w w' grows _ _ st.shown;
      events = st.events;
      quiet = record { source_callbacks = st.quiet.source_callbacks; target_callbacks = st.quiet.target_callbacks; source_jobs = st.quiet.source_jobs; target_jobs = st.quiet.target_jobs };
      top = record { cells = st.top.cells; has = has; base = subst (λ n. IsBase n st.top.cells) (sym grows.before) st.top.base };
      prelude = subst (λ n. PreludeIs n heap') (sym grows.before) (prelude_later w.before r.heap heap' lasts st.prelude);
      agent = agent;
      get_method = subst (λ n. ValueIs w' (v.Thing 0) (v.Thing (6 + n))) (sym grows.before) (value_later w w' grows _ _ st.get_method);
      run_method = subst (λ n. ValueIs w' (v.Thing 1) (v.Thing (7 + n))) (sym grows.before) (value_later w w' grows _ _ st.run_method);
    }

-- both add things and scopes, in any number
abbrev pub store_added : (w w' : World) (s r : Store) → StoreIs w s r → Adds w w' r.heap r.scopes → (b c : List ℕ) (x y : Value) (heap : List (Thing Code)) (things : List (Thing Code)) (scopes cells : List (List Cell)) → Paired (ThingIs w') w'.things heap (r.heap ++ things) → Paired (CellsAre w') w'.scopes scopes (r.scopes ++ cells) → StoreIs w' (record s { scope = b; receiver = x; heap = heap; scopes = scopes }) (record r { scope = c; receiver = y; heap = r.heap ++ things; scopes = r.scopes ++ cells })
store_added w w' s r st adds b c x y heap things scopes cells hs cs =
    let lasts = lasts_front r.heap things in
    store_by w w' s r st adds.grows b c x y heap (r.heap ++ things) scopes (r.scopes ++ cells) r.weak s.mapping s.variables lasts (get_front r.scopes cells 0 _ st.top.has) hs cs
    (agent_later w w' adds.grows r.heap (r.heap ++ things) lasts r.weak s.mapping s.variables st.agent (get_front r.heap things (3 + w.before) _ st.agent.now_at) (owned_adds w.things w'.things r.heap (3 + w.before) _ adds.new_things st.agent.now_at st.agent.now_own))

module _ (w : World) (s r : Store) (st : StoreIs w s r) where
  -- A THING OF BOTH
  abbrev pub store_thing : (a b : Thing Code) → ThingIs w a b → StoreIs (thing_world w (length r.heap)) (with_thing s a) (with_thing r b)
  store_thing a b h =
      let w' = thing_world w (length r.heap) in
      let grows = grows_thing w (length r.heap) in
      let lasts = lasts_front r.heap (b ∷ []) in
      store_by w w' s r st grows s.scope r.scope s.receiver r.receiver (s.heap ++ a ∷ []) (r.heap ++ b ∷ []) s.scopes r.scopes r.weak s.mapping s.variables lasts st.top.has
      (paired_more (ThingIs w') w.things s.heap r.heap a b (thing_later w w' grows a b h) (paired_weaker (ThingIs w) (ThingIs w') w.things s.heap r.heap (thing_later w w' grows) st.heap))
      (paired_weaker (CellsAre w) (CellsAre w') w.scopes s.scopes r.scopes (cells_later w w' grows) st.scopes)
      (agent_later w w' grows r.heap (r.heap ++ b ∷ []) lasts r.weak s.mapping s.variables st.agent (get_front r.heap (b ∷ []) (3 + w.before) _ st.agent.now_at) (owned_more w.things r.heap (3 + w.before) _ st.agent.now_at st.agent.now_own))

  -- the thing that both add
  pub new_place : slice_get (thing_world w (length r.heap)).things (length s.heap) ≡ Some (length r.heap)
  new_place = paired_place (ThingIs w) w.things s.heap r.heap st.heap

  pub new_value : ValueIs (thing_world w (length r.heap)) (v.Thing (length s.heap)) (v.Thing (length r.heap))
  new_value = thing_is (length s.heap) (length r.heap) new_place

  -- A PLAIN THING OF BOTH IS REPLACED
  pub lasts_put : (j : ℕ) (old qs : List Prop) → slice_get r.heap j ≡ Some (Plain old) → Lasts r.heap (slice_set r.heap j (Plain qs))
  lasts_put j old qs e = lasts_set r.heap j (Plain old) (Plain qs) e refl

  abbrev pub store_put : (k j : ℕ) (old ps qs : List Prop) → slice_get w.things k ≡ Some j → slice_get r.heap j ≡ Some (Plain old) → ThingIs w (Plain ps) (Plain qs) → StoreIs w (record s { heap = slice_set s.heap k (Plain ps) }) (record r { heap = slice_set r.heap j (Plain qs) })
  store_put k j old ps qs at e h =
      let grows = grows_same w in
      let lasts = lasts_put j old qs e in
      store_by w w s r st grows s.scope r.scope s.receiver r.receiver (slice_set s.heap k (Plain ps)) (slice_set r.heap j (Plain qs)) s.scopes r.scopes r.weak s.mapping s.variables lasts st.top.has
      (paired_set (ThingIs w) w.things s.heap r.heap k j (Plain ps) (Plain qs) at h st.heap)
      st.scopes
      (agent_later w w grows r.heap (slice_set r.heap j (Plain qs)) lasts r.weak s.mapping s.variables st.agent (get_set_other r.heap j (3 + w.before) (Plain qs) (λ same. st.agent.now_own k (at ∙ ap Some (sym same))) ∙ st.agent.now_at) st.agent.now_own)

  -- A SCOPE OF BOTH
  pub store_scope : (b c : List ℕ) (x y : Value) (cs ds : List Cell) → CellsAre w cs ds → StoreIs (scope_world w (length r.scopes)) (record s { scope = b; receiver = x; scopes = s.scopes ++ cs ∷ [] }) (record r { scope = c; receiver = y; scopes = r.scopes ++ ds ∷ [] })
  store_scope b c x y cs ds h =
      let w' = scope_world w (length r.scopes) in
      let grows = grows_scope w (length r.scopes) in
      let lasts = lasts_same r.heap in
      store_by w w' s r st grows b c x y s.heap r.heap (s.scopes ++ cs ∷ []) (r.scopes ++ ds ∷ []) r.weak s.mapping s.variables lasts (get_front r.scopes (ds ∷ []) 0 _ st.top.has)
      (paired_weaker (ThingIs w) (ThingIs w') w.things s.heap r.heap (thing_later w w' grows) st.heap)
      (paired_more (CellsAre w') w.scopes s.scopes r.scopes cs ds (cells_later w w' grows cs ds h) (paired_weaker (CellsAre w) (CellsAre w') w.scopes s.scopes r.scopes (cells_later w w' grows) st.scopes))
      (agent_later w w' grows r.heap r.heap lasts r.weak s.mapping s.variables st.agent st.agent.now_at st.agent.now_own)

  -- the scope that both open
  pub new_chain : (up over : List ℕ) → ChainIs w up over → ChainIs (scope_world w (length r.scopes)) (length s.scopes ∷ up) (length r.scopes ∷ over)
  new_chain up over c = more_scopes (length s.scopes) (length r.scopes) (paired_place (CellsAre w) w.scopes s.scopes r.scopes st.scopes) (chain_later w (scope_world w (length r.scopes)) (grows_scope w (length r.scopes)) up over c)

  -- WHAT THE TASKS SPEAK OF, WHAT IS SHOWN, AND THE NEXT EVENT
  pub store_moved : (b c : List ℕ) (x y : Value) → StoreIs w (record s { scope = b; receiver = x }) (record r { scope = c; receiver = y })
  store_moved b c x y = store_by w w s r st (grows_same w) b c x y s.heap r.heap s.scopes r.scopes r.weak s.mapping s.variables (lasts_same r.heap) st.top.has st.heap st.scopes st.agent

  pub store_shown : (a b : Value) → ValueIs w a b → StoreIs w (record s { shown = more_shown s.shown a }) (record r { shown = more_shown r.shown b })
  store_shown a b h = record { scopes = st.scopes; heap = st.heap; shown = more_shown_is w s.heap r.heap st.heap a b h _ _ st.shown; events = st.events; quiet = record { source_callbacks = st.quiet.source_callbacks; target_callbacks = st.quiet.target_callbacks; source_jobs = st.quiet.source_jobs; target_jobs = st.quiet.target_jobs }; top = st.top; prelude = st.prelude; agent = st.agent; get_method = st.get_method; run_method = st.run_method }

  pub store_events : (es : List Event) → StoreIs w (record s { events = es }) (record r { events = es })
  store_events es = record { scopes = st.scopes; heap = st.heap; shown = st.shown; events = refl; quiet = record { source_callbacks = st.quiet.source_callbacks; target_callbacks = st.quiet.target_callbacks; source_jobs = st.quiet.source_jobs; target_jobs = st.quiet.target_jobs }; top = st.top; prelude = st.prelude; agent = st.agent; get_method = st.get_method; run_method = st.run_method }

  -- THE PRELUDE'S OWN: scopes and things
  pub store_cells : (cells : List (List Cell)) (c : List ℕ) (y : Value) → StoreIs w s (record r { scope = c; receiver = y; scopes = r.scopes ++ cells })
  store_cells cells c y =
      store_by w w s r st (grows_same w) s.scope c s.receiver y s.heap r.heap s.scopes (r.scopes ++ cells) r.weak s.mapping s.variables (lasts_same r.heap) (get_front r.scopes cells 0 _ st.top.has)
      st.heap
      (paired_extra (CellsAre w) w.scopes s.scopes r.scopes cells st.scopes)
      st.agent

  abbrev pub store_nodes : (nodes : List (Thing Code)) → StoreIs w s (record r { heap = r.heap ++ nodes })
  store_nodes nodes =
      let grows = grows_same w in
      let lasts = lasts_front r.heap nodes in
      store_by w w s r st grows s.scope r.scope s.receiver r.receiver s.heap (r.heap ++ nodes) s.scopes r.scopes r.weak s.mapping s.variables lasts st.top.has
      (paired_extra (ThingIs w) w.things s.heap r.heap nodes st.heap)
      st.scopes
      (agent_later w w grows r.heap (r.heap ++ nodes) lasts r.weak s.mapping s.variables st.agent (get_front r.heap nodes (3 + w.before) _ st.agent.now_at) st.agent.now_own)

  -- the record of the current mapping
  pub lasts_now : (m : Value) (n : ℕ) → Lasts r.heap (slice_set r.heap (3 + w.before) (now_record m n))
  lasts_now m n = lasts_set r.heap (3 + w.before) _ (now_record m n) st.agent.now_at refl

  pub store_now : (ms places : List (ℕ × Value)) (m : Value) → MapsAre w ms places → MappingIs Equal r.heap places m → StoreIs w (record s { mapping = ms }) (record r { heap = slice_set r.heap (3 + w.before) (now_record m (length s.variables)) })
  store_now ms places m maps h =
      let heap' = slice_set r.heap (3 + w.before) (now_record m (length s.variables)) in
      let grows = grows_same w in
      let lasts = lasts_now m (length s.variables) in
      store_by w w s r st grows s.scope r.scope s.receiver r.receiver s.heap heap' s.scopes r.scopes r.weak ms s.variables lasts st.top.has
      (paired_owned (ThingIs w) w.things s.heap r.heap (3 + w.before) _ st.agent.now_own st.heap)
      st.scopes
      (record {
        entries = st.agent.entries;
        entries_at = st.agent.entries_at;
        variables_are = variables_later w w grows r.heap heap' lasts _ _ st.agent.variables_are;
        current = m;
        now_at = get_set_same r.heap (3 + w.before) _ _ st.agent.now_at;
        now_own = st.agent.now_own;
        places = places;
        maps_are = maps;
        mapping_is = mapping_lasts r.heap heap' lasts _ _ h;
      })
