-- The relations hold on where the tables of both sides grow.
use Rattle.std.proofs.Common.{◌≡◌, ℕ, ◌+◌, ◌≤◌, ◌⊎◌, inl, inr, Bool, true, false, List, [], ◌∷◌, ◌++◌, length, length-append, Option, Some, refl, sym, ap, subst, ◌∙◌, arith, ⊎_elim}
use Rattle.std.specs.Prelude.{slice_get, slice_set}
use Rattle.std.proofs.lemmas.Option.{slice_get_within}
use Rattle.actx_match.specs.Pairing.{Extends, IsOwned}
use Rattle.actx_match.proofs.Pairing.{get_front, get_cases, get_set_other, extends_same, extends_more, extends_on}
use Rattle.actx_data.specs.declared.value.Value.{Value}
use Rattle.actx_data.specs.declared.value.Value.TheVariants as v
use Rattle.actx_grammar.specs.declared.operators.Form.TheVariants.{NewVariable}
use Rattle.actx_heap.specs.Things.{Prop, Thing, Plain}
use Rattle.actx_table.specs.Laws.{Equal}
use Rattle.actx_table.specs.PreludeState.{MappingIs, no_mapping, more_mapping}
use Rattle.actx_table.specs.Related.{World, ValueIs, undefined_is, null_is, truth_is, num_is, text_is, thing_is, ValuesAre, no_values, more_values, OptionIs, none_is, some_is, CompletionIs, normal_is, break_is, continue_is, return_is, throw_is, PropsAre, no_props, more_props, ArgumentsAre, no_arguments, padded_arguments, more_arguments, ChainIs, last_scope, more_scopes, IsOwn, CellsAre, no_cells, more_cells, own_cell, ThingIs, failure_is, closure_is, listed_is, plain_is, get_is, run_is, MapsAre, no_maps, more_maps, VariablesAre, no_variables, more_variables, ShownAre, no_shown, more_shown_are, KeptAt, OpIs, prefix_op, infix_op, log_op, error_op, set_op, read_op, write_op, object_op, call_op, LoopIs, loop_is, Wait, ForValue, FramesAre, no_frames, bottom_is, pending_is, options_is, bracket_read, bracket_write, bracket_value, logic_is, choice_is, change_is, base_is, base_lost, key_is, callee_is, let_is, const_is, value_frame_is, return_frame_is, throw_frame_is, if_is, test_is, for_let_is, for_const_is, for_init_is, for_test_is, for_update_is, turn_is, for_copy_is, for_turn_is, try_is, catch_frame_is, last_frame_is, list_is, call_frame_is, call_away, mapping_frame_is}
use Rattle.actx_table.specs.State.{Completion, Cell, Code, Op, BuiltIn, CallOf, Loop, Frame, Pending, Variable, Entry}

-- LATER WORLDS: what stands in the old tables stands in the new ones
pub record Grows (w w' : World) : Type 0 where
  pub before : w'.before ≡ w.before
  pub things : Extends w.things w'.things
  pub scopes : Extends w.scopes w'.scopes

pub grows_same : (w : World) → Grows w w
grows_same w = record { before = refl; things = extends_same w.things; scopes = extends_same w.scopes }

pub grows_on : (a b c : World) → Grows a b → Grows b c → Grows a c
grows_on a b c h g = record { before = g.before ∙ h.before; things = extends_on a.things b.things c.things h.things g.things; scopes = extends_on a.scopes b.scopes c.scopes h.scopes g.scopes }

-- the world with one thing more, which stands at this place of the target
abbrev pub thing_world : World → ℕ → World
thing_world w k = record { before = w.before; things = w.things ++ k ∷ []; scopes = w.scopes }

-- the world with one scope more
abbrev pub scope_world : World → ℕ → World
scope_world w k = record { before = w.before; things = w.things; scopes = w.scopes ++ k ∷ [] }

pub grows_thing : (w : World) (k : ℕ) → Grows w (thing_world w k)
grows_thing w k = record { before = refl; things = extends_more w.things k; scopes = extends_same w.scopes }

pub grows_scope : (w : World) (k : ℕ) → Grows w (scope_world w k)
grows_scope w k = record { before = refl; things = extends_same w.things; scopes = extends_more w.scopes k }

-- THINGS THAT STAY: all but plain objects
abbrev pub is_firm : Thing Code → Bool
is_firm (Plain ps) = false
is_firm _ = true

pub record Lasts (heap heap' : List (Thing Code)) : Type 0 where
  pub says : (k : ℕ) (x : Thing Code) → is_firm x ≡ true → slice_get heap k ≡ Some x → slice_get heap' k ≡ Some x

pub lasts_same : (heap : List (Thing Code)) → Lasts heap heap
lasts_same heap = record { says = λ k x f e. e }

pub lasts_on : (a b c : List (Thing Code)) → Lasts a b → Lasts b c → Lasts a c
lasts_on a b c h g = record { says = λ k x f e. g.says k x f (h.says k x f e) }

pub lasts_front : (heap more : List (Thing Code)) → Lasts heap (heap ++ more)
lasts_front heap more = record { says = λ k x f e. get_front heap more k x e }

-- a firm thing is at no place of one that isn't
pub lasts_set : (heap : List (Thing Code)) (m : ℕ) (a b : Thing Code) → slice_get heap m ≡ Some a → is_firm a ≡ false → Lasts heap (slice_set heap m b)
lasts_set heap m a b at loose = record { says = λ k x f e. get_set_other heap m k b (λ same. clash a x (sym at ∙ ap (slice_get heap) (sym same) ∙ e) f loose) ∙ e }
  where
    clash : (a x : Thing Code) → Some a ≡ Some x → is_firm x ≡ true → is_firm a ≡ false → ⊥
    clash a x e f l = absurd (cc)

-- a mapping's records are firm
pub mapping_lasts : (heap heap' : List (Thing Code)) → Lasts heap heap' → (ms : List (ℕ × Value)) (m : Value) → MappingIs Equal heap ms m → MappingIs Equal heap' ms m
mapping_lasts heap heap' lasts ms m no_mapping = no_mapping
mapping_lasts heap heap' lasts ms m (more_mapping n k h e t) = more_mapping n k h (lasts.says k _ refl e) (mapping_lasts heap heap' lasts _ _ t)

-- WEAKENING
module _ (w w' : World) (grows : Grows w w') where
  pub value_later : (a b : Value) → ValueIs w a b → ValueIs w' a b
  value_later a b undefined_is = undefined_is
  value_later a b null_is = null_is
  value_later a b (truth_is x) = truth_is x
  value_later a b (num_is z) = num_is z
  value_later a b (text_is u) = text_is u
  value_later a b (thing_is k j e) = thing_is k j (grows.things.says k j e)

  pub values_later : (xs ys : List Value) → ValuesAre w xs ys → ValuesAre w' xs ys
  values_later xs ys no_values = no_values
  values_later xs ys (more_values h t) = more_values (value_later _ _ h) (values_later _ _ t)

  pub option_later : (a b : Option Value) → OptionIs w a b → OptionIs w' a b
  option_later a b none_is = none_is
  option_later a b (some_is h) = some_is (value_later _ _ h)

  pub completion_later : (c d : Completion) → CompletionIs w c d → CompletionIs w' c d
  completion_later c d normal_is = normal_is
  completion_later c d break_is = break_is
  completion_later c d continue_is = continue_is
  completion_later c d (return_is h) = return_is (value_later _ _ h)
  completion_later c d (throw_is h) = throw_is (value_later _ _ h)

  pub props_later : (ps qs : List Prop) → PropsAre w ps qs → PropsAre w' ps qs
  props_later ps qs no_props = no_props
  props_later ps qs (more_props key h t) = more_props key (value_later _ _ h) (props_later _ _ t)

  pub arguments_later : (xs ys : List Value) → ArgumentsAre w xs ys → ArgumentsAre w' xs ys
  arguments_later xs ys no_arguments = no_arguments
  arguments_later xs ys (padded_arguments t) = padded_arguments (arguments_later _ _ t)
  arguments_later xs ys (more_arguments h t) = more_arguments (value_later _ _ h) (arguments_later _ _ t)

  pub chain_later : (ks js : List ℕ) → ChainIs w ks js → ChainIs w' ks js
  chain_later ks js (last_scope k e) = last_scope k (grows.scopes.says k 0 e)
  chain_later ks js (more_scopes k j e t) = more_scopes k j (grows.scopes.says k j e) (chain_later _ _ t)

  pub cells_later : (cs ds : List Cell) → CellsAre w cs ds → CellsAre w' cs ds
  cells_later cs ds no_cells = no_cells
  cells_later cs ds (more_cells x constant h t) = more_cells x constant (option_later _ _ h) (cells_later _ _ t)
  cells_later cs ds (own_cell d own t) = own_cell d (subst (λ n. IsOwn n d) (sym grows.before) own) (cells_later _ _ t)

  pub thing_later : (a b : Thing Code) → ThingIs w a b → ThingIs w' a b
  thing_later a b (failure_is name message) = failure_is name message
  thing_later a b (closure_is r n m c h) = closure_is r n m (chain_later _ _ c) (value_later _ _ h)
  thing_later a b (listed_is h l) = listed_is (props_later _ _ h) l
  thing_later a b (plain_is h) = plain_is (props_later _ _ h)
  thing_later a b get_is = get_is
  thing_later a b run_is = run_is

  pub maps_later : (ms ns : List (ℕ × Value)) → MapsAre w ms ns → MapsAre w' ms ns
  maps_later ms ns no_maps = no_maps
  maps_later ms ns (more_maps n h t) = more_maps n (value_later _ _ h) (maps_later _ _ t)

  pub shown_later : (ks js : List ℕ) → ShownAre w ks js → ShownAre w' ks js
  shown_later ks js no_shown = no_shown
  shown_later ks js (more_shown_are k j e t) = more_shown_are k j (grows.things.says k j e) (shown_later _ _ t)

  pub loop_later : (l m : Loop) → LoopIs w l m → LoopIs w' l m
  loop_later l m (loop_is copies t u b c) = loop_is copies t u b (chain_later _ _ c)

  op_later : (o p : Op) → OpIs w o p → OpIs w' o p
  op_later o p (prefix_op op) = prefix_op op
  op_later o p (infix_op op) = infix_op op
  op_later o p log_op = log_op
  op_later o p (error_op name) = error_op name
  op_later o p (set_op x) = set_op x
  op_later o p (read_op key) = read_op key
  op_later o p (write_op key) = write_op key
  op_later o p (object_op keys) = object_op keys
  op_later o p (call_op h) = call_op (value_later _ _ h)

  module _ (heap heap' : List (Thing Code)) (lasts : Lasts heap heap') where
    pub variables_later : (xs : List Variable) (es : List Entry) → VariablesAre w heap xs es → VariablesAre w' heap' xs es
    variables_later xs es no_variables = no_variables
    variables_later xs es (more_variables k j n r p h e t) = more_variables k j n r (grows.things.says k j p) (value_later _ _ h) (lasts.says r _ refl e) (variables_later _ _ t)

    -- what the frames know of the tables is still so
    module _ (scopes scopes' : List (List Cell)) (keeps : (k : ℕ) (m : Value) → KeptAt w scopes k m → KeptAt w' scopes' k m) where
      frames_by : (wait : Wait) (fs gs : List Frame) → FramesAre w heap scopes wait fs gs → FramesAre w' heap' scopes' wait fs gs
      frames_by wait fs gs no_frames = no_frames
      frames_by wait fs gs (bottom_is m) = bottom_is m
      frames_by wait fs gs (pending_is o l vs es f) = pending_is (op_later _ _ o) l (values_later _ _ vs) es (frames_by _ _ _ f)
      frames_by wait fs gs (options_is {xs = xs} {ys = ys} {es = es} {ds = ds} {fs = fs'} {gs = gs'} l vs e f) =
          subst (λ n. FramesAre w' heap' scopes' ForValue (Pending (BuiltIn NewVariable) xs es ∷ fs') (Pending (CallOf v.Undefined) (v.Thing (9 + n) ∷ ys) ds ∷ gs')) grows.before (options_is l (values_later _ _ vs) e (frames_by _ _ _ f))
      frames_by wait fs gs (bracket_read x f) = bracket_read x (frames_by _ _ _ f)
      frames_by wait fs gs (bracket_write x e f) = bracket_write x e (frames_by _ _ _ f)
      frames_by wait fs gs (bracket_value x h f) = bracket_value x (value_later _ _ h) (frames_by _ _ _ f)
      frames_by wait fs gs (logic_is op e f) = logic_is op e (frames_by _ _ _ f)
      frames_by wait fs gs (choice_is a b f) = choice_is a b (frames_by _ _ _ f)
      frames_by wait fs gs (change_is x op h f) = change_is x op (value_later _ _ h) (frames_by _ _ _ f)
      frames_by wait fs gs (base_is l key es f) = base_is l key es (frames_by _ _ _ f)
      frames_by wait fs gs (base_lost x b f) = base_lost x b (frames_by _ _ _ f)
      frames_by wait fs gs (key_is l h es f) = key_is l (value_later _ _ h) es (frames_by _ _ _ f)
      frames_by wait fs gs (callee_is l h es f) = callee_is l (value_later _ _ h) es (frames_by _ _ _ f)
      frames_by wait fs gs (let_is x is f) = let_is x is (frames_by _ _ _ f)
      frames_by wait fs gs (const_is x is f) = const_is x is (frames_by _ _ _ f)
      frames_by wait fs gs (value_frame_is f) = value_frame_is (frames_by _ _ _ f)
      frames_by wait fs gs (return_frame_is f) = return_frame_is (frames_by _ _ _ f)
      frames_by wait fs gs (throw_frame_is f) = throw_frame_is (frames_by _ _ _ f)
      frames_by wait fs gs (if_is st b f) = if_is st b (frames_by _ _ _ f)
      frames_by wait fs gs (test_is e st f) = test_is e st (frames_by _ _ _ f)
      frames_by wait fs gs (for_let_is x is l f) = for_let_is x is (loop_later _ _ l) (frames_by _ _ _ f)
      frames_by wait fs gs (for_const_is x is l f) = for_const_is x is (loop_later _ _ l) (frames_by _ _ _ f)
      frames_by wait fs gs (for_init_is l f) = for_init_is (loop_later _ _ l) (frames_by _ _ _ f)
      frames_by wait fs gs (for_test_is l f) = for_test_is (loop_later _ _ l) (frames_by _ _ _ f)
      frames_by wait fs gs (for_update_is l f) = for_update_is (loop_later _ _ l) (frames_by _ _ _ f)
      frames_by wait fs gs (turn_is e st f) = turn_is e st (frames_by _ _ _ f)
      frames_by wait fs gs (for_copy_is l f) = for_copy_is (loop_later _ _ l) (frames_by _ _ _ f)
      frames_by wait fs gs (for_turn_is l f) = for_turn_is (loop_later _ _ l) (frames_by _ _ _ f)
      frames_by wait fs gs (try_is c l h f) = try_is c l (chain_later _ _ h) (frames_by _ _ _ f)
      frames_by wait fs gs (catch_frame_is l h f) = catch_frame_is l (chain_later _ _ h) (frames_by _ _ _ f)
      frames_by wait fs gs (last_frame_is c f) = last_frame_is (completion_later _ _ c) (frames_by _ _ _ f)
      frames_by wait fs gs (list_is m c f) = list_is m (chain_later _ _ c) (frames_by _ _ _ f)
      frames_by wait fs gs (call_frame_is c h f) = call_frame_is (chain_later _ _ c) (value_later _ _ h) (frames_by _ _ _ f)
      frames_by wait fs gs (call_away b x c y f) = call_away b x c y (frames_by _ _ _ f)
      frames_by wait fs gs (mapping_frame_is k ms m kept c h f) = mapping_frame_is k (maps_later _ _ ms) (mapping_lasts heap heap' lasts _ _ m) (keeps k _ kept) (chain_later _ _ c) (value_later _ _ h) (frames_by _ _ _ f)

-- LATER STATES: the world grows, and what frames know of the target's heap and scopes stays
pub record Later (w : World) (heap : List (Thing Code)) (scopes : List (List Cell)) (w' : World) (heap' : List (Thing Code)) (scopes' : List (List Cell)) : Type 0 where
  pub grows : Grows w w'
  pub lasts : Lasts heap heap'
  pub keeps : (k : ℕ) (m : Value) → KeptAt w scopes k m → KeptAt w' scopes' k m

pub later_same : (w : World) (heap : List (Thing Code)) (scopes : List (List Cell)) → Later w heap scopes w heap scopes
later_same w heap scopes = record { grows = grows_same w; lasts = lasts_same heap; keeps = λ k m h. h }

pub later_on : (a b c : World) (h1 h2 h3 : List (Thing Code)) (s1 s2 s3 : List (List Cell)) → Later a h1 s1 b h2 s2 → Later b h2 s2 c h3 s3 → Later a h1 s1 c h3 s3
later_on a b c h1 h2 h3 s1 s2 s3 l m = record { grows = grows_on a b c l.grows m.grows; lasts = lasts_on h1 h2 h3 l.lasts m.lasts; keeps = λ k x h. m.keeps k x (l.keeps k x h) }

pub frames_later : {w w' : World} {heap heap' : List (Thing Code)} {scopes scopes' : List (List Cell)} → Later w heap scopes w' heap' scopes' → {wait : Wait} {fs gs : List Frame} → FramesAre w heap scopes wait fs gs → FramesAre w' heap' scopes' wait fs gs
frames_later {w = w} {w' = w'} {heap = heap} {heap' = heap'} {scopes = scopes} {scopes' = scopes'} l f = frames_by w w' l.grows heap heap' l.lasts scopes scopes' l.keeps _ _ _ f

-- KINDS OF GROWTH
-- a place of the target's own stays so
pub owned_more : {A : Type 0} (places : List ℕ) (xs : List A) (k : ℕ) (a : A) → slice_get xs k ≡ Some a → IsOwned places k → IsOwned (places ++ length xs ∷ []) k
owned_more places xs k a e own i h = ⊎_elim (λ old. own i old) (λ new. let within = slice_get_within xs k a e in omega (arith, within, new.1)) (get_cases places (length xs) k i h)

-- the world grows by what stands behind the target's tables
pub record Adds (w w' : World) (heap : List (Thing Code)) (scopes : List (List Cell)) : Type 0 where
  pub grows : Grows w w'
  pub new_things : (i m : ℕ) → slice_get w'.things i ≡ Some m → (slice_get w.things i ≡ Some m) ⊎ (length heap ≤ m)
  pub new_scopes : (i m : ℕ) → slice_get w'.scopes i ≡ Some m → (slice_get w.scopes i ≡ Some m) ⊎ (length scopes ≤ m)

-- a place that the old list says, or one that isn't below n
place_more : (places : List ℕ) (n i m : ℕ) → slice_get (places ++ n ∷ []) i ≡ Some m → (slice_get places i ≡ Some m) ⊎ (n ≤ m)
place_more places n i m e = ⊎_elim (λ old. inl old) (λ new. let same = new.1 in inr (omega (arith, same))) (get_cases places n m i e)

pub adds_same : (w : World) (heap : List (Thing Code)) (scopes : List (List Cell)) → Adds w w heap scopes
adds_same w heap scopes = record { grows = grows_same w; new_things = λ i m e. inl e; new_scopes = λ i m e. inl e }

pub adds_thing : (w : World) (heap : List (Thing Code)) (scopes : List (List Cell)) → Adds w (thing_world w (length heap)) heap scopes
adds_thing w heap scopes = record { grows = grows_thing w (length heap); new_things = λ i m e. place_more w.things (length heap) i m e; new_scopes = λ i m e. inl e }

pub adds_scope : (w : World) (heap : List (Thing Code)) (scopes : List (List Cell)) → Adds w (scope_world w (length scopes)) heap scopes
adds_scope w heap scopes = record { grows = grows_scope w (length scopes); new_things = λ i m e. inl e; new_scopes = λ i m e. place_more w.scopes (length scopes) i m e }

pub adds_on : (a b c : World) (heap things : List (Thing Code)) (scopes cells : List (List Cell)) → Adds a b heap scopes → Adds b c (heap ++ things) (scopes ++ cells) → Adds a c heap scopes
adds_on a b c heap things scopes cells h g =
    record {
      grows = grows_on a b c h.grows g.grows;
      new_things = λ i m e. ⊎_elim (λ old. h.new_things i m old) (λ new. let long = length-append heap things in inr (omega (arith, new, long))) (g.new_things i m e);
      new_scopes = λ i m e. ⊎_elim (λ old. h.new_scopes i m old) (λ new. let long = length-append scopes cells in inr (omega (arith, new, long))) (g.new_scopes i m e);
    }

-- an old place that is the target's own stays so
pub owned_adds : {A : Type 0} (places places' : List ℕ) (xs : List A) (k : ℕ) (a : A) → ((i m : ℕ) → slice_get places' i ≡ Some m → (slice_get places i ≡ Some m) ⊎ (length xs ≤ m)) → slice_get xs k ≡ Some a → IsOwned places k → IsOwned places' k
owned_adds places places' xs k a more e own i h = ⊎_elim (λ old. own i old) (λ new. let within = slice_get_within xs k a e in omega (arith, within, new)) (more i k h)

pub later_adds : (w w' : World) (heap things : List (Thing Code)) (scopes cells : List (List Cell)) → Adds w w' heap scopes → Later w heap scopes w' (heap ++ things) (scopes ++ cells)
later_adds w w' heap things scopes cells adds =
    record {
      grows = adds.grows;
      lasts = lasts_front heap things;
      keeps = λ k m h. record { cells = h.cells; has = get_front scopes cells k _ h.has; kept = h.kept; free = h.free; own = owned_adds w.scopes w'.scopes scopes k h.cells adds.new_scopes h.has h.own };
    }

module _ (w : World) (heap : List (Thing Code)) (scopes : List (List Cell)) where
  -- a thing of both, things of the target's, and another heap in which the firm things stay
  pub later_thing : (b : Thing Code) → Later w heap scopes (thing_world w (length heap)) (heap ++ b ∷ []) scopes
  later_thing b = record { grows = grows_thing w (length heap); lasts = lasts_front heap (b ∷ []); keeps = λ k m h. record { cells = h.cells; has = h.has; kept = h.kept; free = h.free; own = h.own } }

  pub later_heap : (heap' : List (Thing Code)) → Lasts heap heap' → Later w heap scopes w heap' scopes
  later_heap heap' lasts = record { grows = grows_same w; lasts = lasts; keeps = λ k m h. h }

  -- a scope of both, scopes of the target's, and a name given a value
  pub later_scope : (ds : List Cell) → Later w heap scopes (scope_world w (length scopes)) heap (scopes ++ ds ∷ [])
  later_scope ds = record { grows = grows_scope w (length scopes); lasts = lasts_same heap; keeps = λ k m h. record { cells = h.cells; has = get_front scopes (ds ∷ []) k _ h.has; kept = h.kept; free = h.free; own = owned_more w.scopes scopes k h.cells h.has h.own } }

  pub later_cells : (cells : List (List Cell)) → Later w heap scopes w heap (scopes ++ cells)
  later_cells cells = record { grows = grows_same w; lasts = lasts_same heap; keeps = λ k m h. record { cells = h.cells; has = get_front scopes cells k _ h.has; kept = h.kept; free = h.free; own = h.own } }

  pub later_set : (i j : ℕ) (ds : List Cell) → slice_get w.scopes i ≡ Some j → Later w heap scopes w heap (slice_set scopes j ds)
  later_set i j ds e = record { grows = grows_same w; lasts = lasts_same heap; keeps = λ k m h. record { cells = h.cells; has = get_set_other scopes j k ds (λ same. h.own i (e ∙ ap Some (sym same))) ∙ h.has; kept = h.kept; free = h.free; own = h.own } }
