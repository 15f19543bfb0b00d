-- Stores that correspond go on to correspond where both change, and where the prelude changes what is its own.
use Rattle.std.proofs.Common.{◌≡◌, ℕ, Bool, true, List, [], ◌∷◌, ◌++◌, length, length-append, Some, refl, sym, ◌∙◌, subst, arith, ⊎_elim}
use Rattle.std.specs.Prelude.{slice_get, slice_set}
use Rattle.std.proofs.lemmas.Option.{slice_get_within}
use Rattle.actx_match.proofs.Pairing.{get_front, get_last, get_cases, get_set_same, get_set_other, paired_weaker, paired_extra, paired_owned, paired_more, paired_place}
use Rattle.actx_data.specs.declared.value.Value.{Value}
use Rattle.actx_data.specs.declared.value.Value.TheVariants as v
use Rattle.actx_rules.specs.Low.{p_}
use Rattle.actx_rules.specs.Properties.{more_shown}
use Rattle.actx_rules.specs.State.{Cell, Thing, Plain, Mapped, Store, with_set, with_thing}
use Rattle.actx_rules.specs.Related.{World, ValueIs, thing_is, ChainIs, more_scopes, CellsAre, ThingIs, now_record, MappingIs, PreludeIs, AgentIs, StoreIs}
use Rattle.actx_rules.specs.Laws.{Ready}
use Rattle.actx_rules.proofs.Same.Growth.{grows_same, thing_world, scope_world, grows_thing, grows_scope, Lasts, lasts_same, lasts_front, lasts_set, value_later, chain_later, cells_later, thing_later, shown_later, mapping_later, variables_later, Later, later_set, owned_more}
use Rattle.actx_rules.proofs.Same.Names.{SetIs}
use Rattle.actx_rules.proofs.Same.Shown.{more_shown_is}

pub prelude_later : (heap heap' : List Thing) → Lasts heap heap' → PreludeIs heap → PreludeIs heap'
prelude_later heap heap' l h =
    record {
      weak_get_at = l.says 0 _ refl h.weak_get_at;
      weak_set_at = l.says 1 _ refl h.weak_set_at;
      find_at = l.says 4 _ refl h.find_at;
      with_at = l.says 5 _ refl h.with_at;
      make_at = l.says 8 _ refl h.make_at;
      variable_at = l.says 9 _ refl h.variable_at;
    }

-- a store that corresponds is ready for the prelude's functions
abbrev pub ready : (w : World) (s r : Store) → StoreIs w s r → Ready r
ready w s r st = record { top = st.top.cells; top_at = st.top.has; base = st.top.base; entries = st.agent.entries; states_at = st.agent.states_at; current = st.agent.current; made = length s.variables; now_at = st.agent.now_at; weak_get_at = st.prelude.weak_get_at; weak_set_at = st.prelude.weak_set_at; find_at = st.prelude.find_at; with_at = st.prelude.with_at; make_at = st.prelude.make_at; variable_at = st.prelude.variable_at }

module _ (w : World) (s r : Store) (st : StoreIs w s r) where
  -- A THING OF BOTH
  pub options_more : (a : Thing) (value : Bool) → ((ps : _) → a ≡ Plain ps → value ≡ true → ⊥) → (k : ℕ) (ps : _) → slice_get (s.heap ++ a ∷ []) k ≡ Some (Plain ps) → slice_get (w.values ++ value ∷ []) k ≡ Some true → ⊥
  options_more a value other k ps e f = ⊎_elim
      (λ old. ⊎_elim
      (λ old2. st.options k ps old old2)
      (λ new2. let within = slice_get_within s.heap k (Plain ps) old in let long = st.long in omega (arith, within, long, new2.0))
      (get_cases w.values value true k f))
      (λ new. ⊎_elim
      (λ old2. let within = slice_get_within w.values k true old2 in let long = st.long in omega (arith, within, long, new.0))
      (λ new2. other ps new.1 new2.1)
      (get_cases w.values value true k f))
      (get_cases s.heap a (Plain ps) k e)

  abbrev pub agent_more : (b : Thing) (value : Bool) → AgentIs (thing_world w (length r.heap) value) (r.heap ++ b ∷ []) s.mapping s.variables
  agent_more b value =
      let w' = thing_world w (length r.heap) value in
      let grows = grows_thing w (length r.heap) value in
      let lasts = lasts_front r.heap (b ∷ []) in
      record {
        entries = st.agent.entries;
        states_at = get_front r.heap (b ∷ []) 2 _ st.agent.states_at;
        states_own = owned_more w.things r.heap 2 _ st.agent.states_at st.agent.states_own;
        variables_are = variables_later w w' grows r.heap (r.heap ++ b ∷ []) lasts _ _ st.agent.variables_are;
        current = st.agent.current;
        now_at = get_front r.heap (b ∷ []) 3 _ st.agent.now_at;
        now_own = owned_more w.things r.heap 3 _ st.agent.now_at st.agent.now_own;
        mapping_is = mapping_later w w' grows r.heap (r.heap ++ b ∷ []) lasts _ _ st.agent.mapping_is;
      }

  abbrev pub store_thing : (a b : Thing) (value : Bool) → ThingIs w a b → ((ps : _) → a ≡ Plain ps → value ≡ true → ⊥) → StoreIs (thing_world w (length r.heap) value) (with_thing s a) (with_thing r b)
  store_thing a b value h other =
      let w' = thing_world w (length r.heap) value in
      let grows = grows_thing w (length r.heap) value in
      record {
        scopes = paired_weaker (CellsAre w) (CellsAre w') w.scopes s.scopes r.scopes (cells_later w w' grows) st.scopes;
        heap = paired_more (ThingIs w') w.things s.heap r.heap a b (thing_later w w' grows a b h) (paired_weaker (ThingIs w) (ThingIs w') w.things s.heap r.heap (thing_later w w' grows) st.heap);
        shown = shown_later w w' grows _ _ st.shown;
        events = st.events;
        long = let long = st.long in omega (arith, long, length-append w.values (value ∷ []), length-append s.heap (a ∷ []));
        options = options_more a value other;
        top = st.top;
        prelude = prelude_later r.heap (r.heap ++ b ∷ []) (lasts_front r.heap (b ∷ [])) st.prelude;
        agent = agent_more b value;
        get_method = value_later w w' grows _ _ st.get_method;
        run_method = value_later w w' grows _ _ st.run_method;
      }

  -- the thing that both add
  pub new_place : (value : Bool) → slice_get (thing_world w (length r.heap) value).things (length s.heap) ≡ Some (length r.heap)
  new_place value = paired_place (ThingIs w) w.things s.heap r.heap st.heap

  pub new_value : ValueIs (thing_world w (length r.heap) true) (v.Thing (length s.heap)) (v.Thing (length r.heap))
  new_value = thing_is (length s.heap) (length r.heap) (new_place true) (subst (λ n. slice_get (w.values ++ true ∷ []) n ≡ Some true) st.long (get_last w.values true))

  -- A SCOPE OF BOTH
  pub store_scope : (b c : List ℕ) (x y : Value) (cs ds : List Cell) → CellsAre w cs ds → StoreIs (scope_world w (length r.scopes)) (record s { scope = b; receiver = x; scopes = s.scopes ++ cs ∷ [] }) (record r { scope = c; receiver = y; scopes = r.scopes ++ ds ∷ [] })
  store_scope b c x y cs ds h =
      let w' = scope_world w (length r.scopes) in
      let grows = grows_scope w (length r.scopes) in
      record {
        scopes = paired_more (CellsAre w') w.scopes s.scopes r.scopes cs ds (cells_later w w' grows cs ds h) (paired_weaker (CellsAre w) (CellsAre w') w.scopes s.scopes r.scopes (cells_later w w' grows) st.scopes);
        heap = paired_weaker (ThingIs w) (ThingIs w') w.things s.heap r.heap (thing_later w w' grows) st.heap;
        shown = shown_later w w' grows _ _ st.shown;
        events = st.events;
        long = st.long;
        options = st.options;
        top = record { cells = st.top.cells; has = get_front r.scopes (ds ∷ []) 0 _ st.top.has; base = st.top.base };
        prelude = st.prelude;
        agent = record { entries = st.agent.entries; states_at = st.agent.states_at; states_own = st.agent.states_own; variables_are = variables_later w w' grows r.heap r.heap (lasts_same r.heap) _ _ st.agent.variables_are; current = st.agent.current; now_at = st.agent.now_at; now_own = st.agent.now_own; mapping_is = mapping_later w w' grows r.heap r.heap (lasts_same r.heap) _ _ st.agent.mapping_is };
        get_method = value_later w w' grows _ _ st.get_method;
        run_method = value_later w w' grows _ _ st.run_method;
      }

  -- the scope that both open
  pub new_chain : (up over : List ℕ) → ChainIs w up over → ChainIs (scope_world w (length r.scopes)) (length s.scopes ∷ up) (length r.scopes ∷ over)
  new_chain up over c = more_scopes (length s.scopes) (length r.scopes) (paired_place (CellsAre w) w.scopes s.scopes r.scopes st.scopes) (chain_later w (scope_world w (length r.scopes)) (grows_scope w (length r.scopes)) up over c)

  pub store_moved : (b c : List ℕ) (x y : Value) → StoreIs w (record s { scope = b; receiver = x }) (record r { scope = c; receiver = y })
  store_moved b c x y = record { scopes = st.scopes; heap = st.heap; shown = st.shown; events = st.events; long = st.long; options = st.options; top = st.top; prelude = st.prelude; agent = st.agent; get_method = st.get_method; run_method = st.run_method }

  -- A NAME'S VALUE, WHAT IS SHOWN, AND THE NEXT EVENT
  pub store_set : (x : List ℕ) (a b : Value) → SetIs w s.scopes r.scopes s.scope r.scope x a b → StoreIs w (with_set s x a) (with_set r (p_ x) b)
  store_set x a b h = record { scopes = h.scopes; heap = st.heap; shown = st.shown; events = st.events; long = st.long; options = st.options; top = h.top; prelude = st.prelude; agent = st.agent; get_method = st.get_method; run_method = st.run_method }

  pub later_name : (x : List ℕ) (a b : Value) → SetIs w s.scopes r.scopes s.scope r.scope x a b → Later w r.heap r.scopes w r.heap (with_set r (p_ x) b).scopes
  later_name x a b h = subst (λ scopes. Later w r.heap r.scopes w r.heap scopes) (sym h.same) (later_set w r.heap r.scopes h.place h.at h.cells h.paired)

  pub store_shown : (a b : Value) → ValueIs w a b → StoreIs w (record s { shown = more_shown s.shown a }) (record r { shown = more_shown r.shown b })
  store_shown a b h = record { scopes = st.scopes; heap = st.heap; shown = more_shown_is w s.heap r.heap st.heap a b h _ _ st.shown; events = st.events; long = st.long; options = st.options; top = st.top; prelude = st.prelude; agent = st.agent; get_method = st.get_method; run_method = st.run_method }

  pub store_events : (es : List _) → StoreIs w (record s { events = es }) (record r { events = es })
  store_events es = record { scopes = st.scopes; heap = st.heap; shown = st.shown; events = refl; long = st.long; options = st.options; top = st.top; prelude = st.prelude; agent = st.agent; get_method = st.get_method; run_method = st.run_method }

  -- THE PRELUDE'S OWN: scopes and things
  pub store_cells : (cells : List (List Cell)) (c : List ℕ) (y : Value) → StoreIs w s (record r { scope = c; receiver = y; scopes = r.scopes ++ cells })
  store_cells cells c y = record { scopes = paired_extra (CellsAre w) w.scopes s.scopes r.scopes cells st.scopes; heap = st.heap; shown = st.shown; events = st.events; long = st.long; options = st.options; top = record { cells = st.top.cells; has = get_front r.scopes cells 0 _ st.top.has; base = st.top.base }; prelude = st.prelude; agent = st.agent; get_method = st.get_method; run_method = st.run_method }

  abbrev pub store_nodes : (nodes : List Thing) → StoreIs w s (record r { heap = r.heap ++ nodes })
  store_nodes nodes =
      let grows = grows_same w in
      let lasts = lasts_front r.heap nodes in
      record {
        scopes = st.scopes;
        heap = paired_extra (ThingIs w) w.things s.heap r.heap nodes st.heap;
        shown = st.shown;
        events = st.events;
        long = st.long;
        options = st.options;
        top = st.top;
        prelude = prelude_later r.heap (r.heap ++ nodes) lasts st.prelude;
        agent = record {
          entries = st.agent.entries;
          states_at = get_front r.heap nodes 2 _ st.agent.states_at;
          states_own = st.agent.states_own;
          variables_are = variables_later w w grows r.heap (r.heap ++ nodes) lasts _ _ st.agent.variables_are;
          current = st.agent.current;
          now_at = get_front r.heap nodes 3 _ st.agent.now_at;
          now_own = st.agent.now_own;
          mapping_is = mapping_later w w grows r.heap (r.heap ++ nodes) lasts _ _ st.agent.mapping_is;
        };
        get_method = st.get_method;
        run_method = st.run_method;
      }

  -- the record of the current mapping
  pub lasts_now : (m : Value) (n : ℕ) → Lasts r.heap (slice_set r.heap 3 (now_record m n))
  lasts_now m n = lasts_set r.heap 3 _ (now_record m n) st.agent.now_at refl

  pub store_now : (ms : List Mapped) (m : Value) → MappingIs w r.heap ms m → StoreIs w (record s { mapping = ms }) (record r { heap = slice_set r.heap 3 (now_record m (length s.variables)) })
  store_now ms m h =
      let heap' = slice_set r.heap 3 (now_record m (length s.variables)) in
      let grows = grows_same w in
      let lasts = lasts_now m (length s.variables) in
      record {
        scopes = st.scopes;
        heap = paired_owned (ThingIs w) w.things s.heap r.heap 3 _ st.agent.now_own st.heap;
        shown = st.shown;
        events = st.events;
        long = st.long;
        options = st.options;
        top = st.top;
        prelude = prelude_later r.heap heap' lasts st.prelude;
        agent = record {
          entries = st.agent.entries;
          states_at = get_set_other r.heap 3 2 _ (λ e. absurd (cc)) ∙ st.agent.states_at;
          states_own = st.agent.states_own;
          variables_are = variables_later w w grows r.heap heap' lasts _ _ st.agent.variables_are;
          current = m;
          now_at = get_set_same r.heap 3 _ _ st.agent.now_at;
          now_own = st.agent.now_own;
          mapping_is = mapping_later w w grows r.heap heap' lasts _ _ h;
        };
        get_method = st.get_method;
        run_method = st.run_method;
      }
