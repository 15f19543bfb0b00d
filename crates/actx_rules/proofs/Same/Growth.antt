-- The relations hold on where the tables of both sides grow.
use Rattle.std.proofs.Common.{◌≡◌, ℕ, Bool, true, false, List, [], ◌∷◌, ◌++◌, Option, Some, refl, sym, ap, ◌∙◌}
use Rattle.std.specs.Prelude.{slice_get, slice_set}
use Rattle.std.proofs.lemmas.Option.{slice_get_within}
use Rattle.std.proofs.Common.{length, arith, ⊎_elim}
use Rattle.actx_match.specs.Pairing.{Extends, IsOwned}
use Rattle.actx_match.proofs.Pairing.{get_front, get_cases, get_set_other, extends_same, extends_more, extends_on}
use Rattle.actx_data.specs.declared.value.Value.{Value}
use Rattle.actx_rules.specs.State.{Cell, Prop, Entry, Thing, Plain, Weak, Op, Mapped, Frame, Variable}
use Rattle.actx_rules.specs.Related.{World, ValueIs, undefined_is, truth_is, num_is, text_is, thing_is, ValuesAre, no_values, more_values, OptionIs, none_is, some_is, PropsAre, no_props, more_props, ChainIs, last_scope, more_scopes, CellsAre, no_cells, more_cells, own_cell, ThingIs, failure_is, closure_is, listed_is, plain_is, get_is, run_is, MappingIs, no_mapping, more_mapping, VariablesAre, no_variables, more_variables, ShownAre, no_shown, more_shown_are, KeptAt, OpIs, operator_op, log_op, get_op, call_op, Wait, FramesAre, no_frames, bottom_is, pending_is, base_is, callee_is, options_are, options_lost, const_is, value_frame_is, return_frame_is, list_is, call_frame_is, call_away, mapping_frame_is}

-- LATER WORLDS: what stands in the old tables stands in the new ones
pub record Grows (w w' : World) : Type 0 where
  pub things : Extends w.things w'.things
  pub scopes : Extends w.scopes w'.scopes
  pub values : (k : ℕ) → slice_get w.values k ≡ Some true → slice_get w'.values k ≡ Some true

pub grows_same : (w : World) → Grows w w
grows_same w = record { things = extends_same w.things; scopes = extends_same w.scopes; values = λ k e. e }

pub grows_on : (a b c : World) → Grows a b → Grows b c → Grows a c
grows_on a b c h g = record { things = extends_on a.things b.things c.things h.things g.things; scopes = extends_on a.scopes b.scopes c.scopes h.scopes g.scopes; values = λ k e. g.values k (h.values k e) }

-- the world with one thing more, which stands at this place of the target and is a value or none
abbrev pub thing_world : World → ℕ → Bool → World
thing_world w k b = record { things = w.things ++ k ∷ []; scopes = w.scopes; values = w.values ++ b ∷ [] }

-- the world with one scope more
abbrev pub scope_world : World → ℕ → World
scope_world w k = record { things = w.things; scopes = w.scopes ++ k ∷ []; values = w.values }

pub grows_thing : (w : World) (k : ℕ) (b : Bool) → Grows w (thing_world w k b)
grows_thing w k b = record { things = extends_more w.things k; scopes = extends_same w.scopes; values = λ i e. get_front w.values (b ∷ []) i _ e }

pub grows_scope : (w : World) (k : ℕ) → Grows w (scope_world w k)
grows_scope w k = record { things = extends_same w.things; scopes = extends_more w.scopes k; values = λ i e. e }

-- THINGS THAT STAY: all but plain objects and the table of the states
abbrev pub is_firm : Thing → Bool
is_firm (Plain ps) = false
is_firm (Weak es) = false
is_firm _ = true

pub record Lasts (heap heap' : List Thing) : Type 0 where
  pub says : (k : ℕ) (x : Thing) → is_firm x ≡ true → slice_get heap k ≡ Some x → slice_get heap' k ≡ Some x

pub lasts_same : (heap : List Thing) → Lasts heap heap
lasts_same heap = record { says = λ k x f e. e }

pub lasts_on : (a b c : List Thing) → Lasts a b → Lasts b c → Lasts a c
lasts_on a b c h g = record { says = λ k x f e. g.says k x f (h.says k x f e) }

pub lasts_front : (heap more : List Thing) → Lasts heap (heap ++ more)
lasts_front heap more = record { says = λ k x f e. get_front heap more k x e }

-- a firm thing is at no place of one that isn't
pub lasts_set : (heap : List Thing) (m : ℕ) (a b : Thing) → slice_get heap m ≡ Some a → is_firm a ≡ false → Lasts heap (slice_set heap m b)
lasts_set heap m a b at loose = record { says = λ k x f e. get_set_other heap m k b (λ same. clash a x (sym at ∙ ap (slice_get heap) (sym same) ∙ e) f loose) ∙ e }
  where
    clash : (a x : Thing) → Some a ≡ Some x → is_firm x ≡ true → is_firm a ≡ false → ⊥
    clash a x e f l = absurd (cc)

-- WEAKENING
module _ (w w' : World) (grows : Grows w w') where
  pub value_later : (a b : Value) → ValueIs w a b → ValueIs w' a b
  value_later a b undefined_is = undefined_is
  value_later a b (truth_is x) = truth_is x
  value_later a b (num_is z) = num_is z
  value_later a b (text_is u l) = text_is u l
  value_later a b (thing_is k j e v) = thing_is k j (grows.things.says k j e) (grows.values k v)

  pub values_later : (xs ys : List Value) → ValuesAre w xs ys → ValuesAre w' xs ys
  values_later xs ys no_values = no_values
  values_later xs ys (more_values h t) = more_values (value_later _ _ h) (values_later _ _ t)

  pub option_later : (a b : Option Value) → OptionIs w a b → OptionIs w' a b
  option_later a b none_is = none_is
  option_later a b (some_is h) = some_is (value_later _ _ h)

  pub props_later : (ps qs : List Prop) → PropsAre w ps qs → PropsAre w' ps qs
  props_later ps qs no_props = no_props
  props_later ps qs (more_props key h t) = more_props key (value_later _ _ h) (props_later _ _ t)

  pub chain_later : (ks js : List ℕ) → ChainIs w ks js → ChainIs w' ks js
  chain_later ks js (last_scope k e) = last_scope k (grows.scopes.says k 0 e)
  chain_later ks js (more_scopes k j e t) = more_scopes k j (grows.scopes.says k j e) (chain_later _ _ t)

  pub cells_later : (cs ds : List Cell) → CellsAre w cs ds → CellsAre w' cs ds
  cells_later cs ds no_cells = no_cells
  cells_later cs ds (more_cells x constant h t) = more_cells x constant (option_later _ _ h) (cells_later _ _ t)
  cells_later cs ds (own_cell d own t) = own_cell d own (cells_later _ _ t)

  pub thing_later : (a b : Thing) → ThingIs w a b → ThingIs w' a b
  thing_later a b (failure_is name) = failure_is name
  thing_later a b (closure_is n m c h) = closure_is n m (chain_later _ _ c) (value_later _ _ h)
  thing_later a b (listed_is h l) = listed_is (props_later _ _ h) l
  thing_later a b (plain_is h) = plain_is (props_later _ _ h)
  thing_later a b get_is = get_is
  thing_later a b run_is = run_is

  pub shown_later : (ks js : List ℕ) → ShownAre w ks js → ShownAre w' ks js
  shown_later ks js no_shown = no_shown
  shown_later ks js (more_shown_are k j e t) = more_shown_are k j (grows.things.says k j e) (shown_later _ _ t)

  op_later : (o p : Op) → OpIs w o p → OpIs w' o p
  op_later o p (operator_op op) = operator_op op
  op_later o p log_op = log_op
  op_later o p (get_op key) = get_op key
  op_later o p (call_op h) = call_op (value_later _ _ h)

  module _ (heap heap' : List Thing) (lasts : Lasts heap heap') where
    pub mapping_later : (ms : List Mapped) (m : Value) → MappingIs w heap ms m → MappingIs w' heap' ms m
    mapping_later ms m no_mapping = no_mapping
    mapping_later ms m (more_mapping n k h e t) = more_mapping n k (value_later _ _ h) (lasts.says k _ refl e) (mapping_later _ _ t)

    pub variables_later : (xs : List Variable) (es : List Entry) → VariablesAre w heap xs es → VariablesAre w' heap' xs es
    variables_later xs es no_variables = no_variables
    variables_later xs es (more_variables k j n r p h e t) = more_variables k j n r (grows.things.says k j p) (value_later _ _ h) (lasts.says r _ refl e) (variables_later _ _ t)

    -- what the frames know of the tables is still so
    module _ (scopes scopes' : List (List Cell)) (keeps : (k : ℕ) (m : Value) → KeptAt w scopes k m → KeptAt w' scopes' k m) where
      frames_by : (wait : Wait) (fs gs : List Frame) → FramesAre w heap scopes wait fs gs → FramesAre w' heap' scopes' wait fs gs
      frames_by wait fs gs no_frames = no_frames
      frames_by wait fs gs (bottom_is m) = bottom_is m
      frames_by wait fs gs (pending_is o l vs es f) = pending_is (op_later _ _ o) l (values_later _ _ vs) es (frames_by _ _ _ f)
      frames_by wait fs gs (base_is key l es f) = base_is key l es (frames_by _ _ _ f)
      frames_by wait fs gs (callee_is l h es f) = callee_is l (value_later _ _ h) es (frames_by _ _ _ f)
      frames_by wait fs gs (options_are keys vs es f) = options_are keys (values_later _ _ vs) es (frames_by _ _ _ f)
      frames_by wait fs gs (options_lost f) = options_lost (frames_by _ _ _ f)
      frames_by wait fs gs (const_is x is f) = const_is x is (frames_by _ _ _ f)
      frames_by wait fs gs (value_frame_is f) = value_frame_is (frames_by _ _ _ f)
      frames_by wait fs gs (return_frame_is f) = return_frame_is (frames_by _ _ _ f)
      frames_by wait fs gs (list_is m c f) = list_is m (chain_later _ _ c) (frames_by _ _ _ f)
      frames_by wait fs gs (call_frame_is c h f) = call_frame_is (chain_later _ _ c) (value_later _ _ h) (frames_by _ _ _ f)
      frames_by wait fs gs (call_away b x c y f) = call_away b x c y (frames_by _ _ _ f)
      frames_by wait fs gs (mapping_frame_is k m kept c h f) = mapping_frame_is k (mapping_later _ _ m) (keeps k _ kept) (chain_later _ _ c) (value_later _ _ h) (frames_by _ _ _ f)

-- LATER STATES: the world grows, and what frames know of the target's heap and scopes stays
pub record Later (w : World) (heap : List Thing) (scopes : List (List Cell)) (w' : World) (heap' : List Thing) (scopes' : List (List Cell)) : Type 0 where
  pub grows : Grows w w'
  pub lasts : Lasts heap heap'
  pub keeps : (k : ℕ) (m : Value) → KeptAt w scopes k m → KeptAt w' scopes' k m

pub later_same : (w : World) (heap : List Thing) (scopes : List (List Cell)) → Later w heap scopes w heap scopes
later_same w heap scopes = record { grows = grows_same w; lasts = lasts_same heap; keeps = λ k m h. h }

pub later_on : (a b c : World) (h1 h2 h3 : List Thing) (s1 s2 s3 : List (List Cell)) → Later a h1 s1 b h2 s2 → Later b h2 s2 c h3 s3 → Later a h1 s1 c h3 s3
later_on a b c h1 h2 h3 s1 s2 s3 l m = record { grows = grows_on a b c l.grows m.grows; lasts = lasts_on h1 h2 h3 l.lasts m.lasts; keeps = λ k x h. m.keeps k x (l.keeps k x h) }

pub frames_later : {w w' : World} {heap heap' : List Thing} {scopes scopes' : List (List Cell)} → Later w heap scopes w' heap' scopes' → {wait : Wait} {fs gs : List Frame} → FramesAre w heap scopes wait fs gs → FramesAre w' heap' scopes' wait fs gs
frames_later {w = w} {w' = w'} {heap = heap} {heap' = heap'} {scopes = scopes} {scopes' = scopes'} l f = frames_by w w' l.grows heap heap' l.lasts scopes scopes' l.keeps _ _ _ f

-- KINDS OF GROWTH
-- a place of the target's own stays so
pub owned_more : {A : Type 0} (places : List ℕ) (xs : List A) (k : ℕ) (a : A) → slice_get xs k ≡ Some a → IsOwned places k → IsOwned (places ++ length xs ∷ []) k
owned_more places xs k a e own i h = ⊎_elim (λ old. own i old) (λ new. let within = slice_get_within xs k a e in omega (arith, within, new.1)) (get_cases places (length xs) k i h)

module _ (w : World) (heap : List Thing) (scopes : List (List Cell)) where
  -- a thing of both, things of the target's, and another heap in which the firm things stay
  pub later_thing : (b : Thing) (v : Bool) → Later w heap scopes (thing_world w (length heap) v) (heap ++ b ∷ []) scopes
  later_thing b v = record { grows = grows_thing w (length heap) v; lasts = lasts_front heap (b ∷ []); keeps = λ k m h. record { cells = h.cells; has = h.has; kept = h.kept; free = h.free; own = h.own } }

  pub later_heap : (heap' : List Thing) → Lasts heap heap' → Later w heap scopes w heap' scopes
  later_heap heap' lasts = record { grows = grows_same w; lasts = lasts; keeps = λ k m h. h }

  -- a scope of both, scopes of the target's, and a name given a value
  pub later_scope : (ds : List Cell) → Later w heap scopes (scope_world w (length scopes)) heap (scopes ++ ds ∷ [])
  later_scope ds = record { grows = grows_scope w (length scopes); lasts = lasts_same heap; keeps = λ k m h. record { cells = h.cells; has = get_front scopes (ds ∷ []) k _ h.has; kept = h.kept; free = h.free; own = owned_more w.scopes scopes k h.cells h.has h.own } }

  pub later_cells : (cells : List (List Cell)) → Later w heap scopes w heap (scopes ++ cells)
  later_cells cells = record { grows = grows_same w; lasts = lasts_same heap; keeps = λ k m h. record { cells = h.cells; has = get_front scopes cells k _ h.has; kept = h.kept; free = h.free; own = h.own } }

  pub later_set : (i j : ℕ) (ds : List Cell) → slice_get w.scopes i ≡ Some j → Later w heap scopes w heap (slice_set scopes j ds)
  later_set i j ds e = record { grows = grows_same w; lasts = lasts_same heap; keeps = λ k m h. record { cells = h.cells; has = get_set_other scopes j k ds (λ same. h.own i (e ∙ ap Some (sym same))) ∙ h.has; kept = h.kept; free = h.free; own = h.own } }
