-- Names of the program stand for the same cells, whatever they are called, and none of them is one of the prelude's.
use Rattle.std.proofs.Common.{◌≡◌, ℕ, ◌+◌, Bool, true, false, List, [], ◌∷◌, Option, Some, None, refl, sym, ap, ◌∙◌, subst, ◌⊎◌, inl, inr, ⊎_elim}
use Rattle.std.specs.Prelude.{if◌then◌else◌, slice_get, slice_set, codes}
use Rattle.std.proofs.lemmas.Bool.{cases_eq}
use Rattle.actx_match.specs.Pairing.{Paired}
use Rattle.actx_match.proofs.Pairing.{paired_set, get_set_same, get_set_other}
use Rattle.actx_data.specs.declared.value.Value.{Value}
use Rattle.actx_data.specs.declared.value.Value.TheVariants as v
use Rattle.actx_heap.specs.Texts.{same_text}
use Rattle.actx_table.specs.Low.{p_}
use Rattle.actx_table.specs.Prelude.{name_variable}
use Rattle.actx_table.specs.PreludeState.{constant_at, IsBase}
use Rattle.actx_table.specs.Scopes.{or_else, option_or, cell_of, cells_at, Found, found_at, find, given_cell, set_cell, with_value_at, set_in, with_cell, fixed_cell}
use Rattle.actx_table.specs.State.{Cell, Store}
use Rattle.actx_table.specs.Related.{World, ValueIs, OptionIs, none_is, some_is, ChainIs, last_scope, more_scopes, IsOwn, CellsAre, no_cells, more_cells, own_cell, TopIs}

-- a cell that both have, or neither
pub data CellIs (w : World) : Option Cell → Option Cell → Type 0 where
  no_cell : CellIs w None None
  same_cell : (x : List ℕ) (constant : Bool) {a b : Option Value} → OptionIs w a b → CellIs w (Some (record { name = x; value = a; constant = constant })) (Some (record { name = p_ x; value = b; constant = constant }))

-- a cell that both find, or neither, in scopes that correspond
pub data FoundIs (w : World) : Option Found → Option Found → Type 0 where
  not_found : FoundIs w None None
  found : (k j : ℕ) (x : List ℕ) (constant : Bool) {a b : Option Value} → slice_get w.scopes k ≡ Some j → OptionIs w a b → FoundIs w (Some (record { place = k; cell = record { name = x; value = a; constant = constant } })) (Some (record { place = j; cell = record { name = p_ x; value = b; constant = constant } }))

-- a cell of the prelude's has none of the program's names
own_other : {n : ℕ} (x : List ℕ) (d : Cell) → IsOwn n d → same_text (p_ x) d.name ≡ false
own_other x d own = ap (same_text (p_ x)) own.begins

pub if_false : {A : Type 0} (b : Bool) (x y : A) → b ≡ false → (if b then x else y) ≡ y
if_false b x y e = ap (λ b. if b then x else y) e

module _ (w : World) where
  cell_if : (b : Bool) (c d e f : Option Cell) → CellIs w c d → CellIs w e f → CellIs w (if b then c else e) (if b then d else f)
  cell_if true c d e f h k = h
  cell_if false c d e f h k = k

  pub cell_of_is : (x : List ℕ) (cs ds : List Cell) → CellsAre w cs ds → CellIs w (cell_of x cs) (cell_of (p_ x) ds)
  cell_of_is x cs ds no_cells = no_cell
  cell_of_is x cs ds (more_cells y constant h t) = cell_if (same_text x y) _ _ _ _ (same_cell y constant h) (cell_of_is x _ _ t)
  cell_of_is x cs ds (own_cell d {ds = ds'} own t) = subst (CellIs w (cell_of x cs)) (sym (if_false (same_text (p_ x) d.name) (Some d) (cell_of (p_ x) ds') (own_other x d own))) (cell_of_is x cs ds' t)

  pub cells_at_is : (ss ts : List (List Cell)) (k j : ℕ) → slice_get w.scopes k ≡ Some j → Paired (CellsAre w) w.scopes ss ts → CellsAre w (cells_at ss k) (cells_at ts j)
  cells_at_is ss ts k j e h =
      let p = h.pair k j e in
      subst (λ o. CellsAre w (option_or o []) (cells_at ts j)) (sym p.2) (subst (λ o. CellsAre w p.0 (option_or o [])) (sym p.3) p.4)

  found_else : (k j : ℕ) (a b : Option Cell) (c d : Option Found) → slice_get w.scopes k ≡ Some j → CellIs w a b → FoundIs w c d → FoundIs w (or_else (found_at k a) c) (or_else (found_at j b) d)
  found_else k j a b c d e no_cell t = t
  found_else k j a b c d e (same_cell x constant h) t = found k j x constant e h

  pub find_is : (ss ts : List (List Cell)) → Paired (CellsAre w) w.scopes ss ts → (x : List ℕ) (ks js : List ℕ) → ChainIs w ks js → FoundIs w (find ss ks x) (find ts js (p_ x))
  find_is ss ts h x ks js (last_scope k e) = found_else k 0 (cell_of x (cells_at ss k)) (cell_of (p_ x) (cells_at ts 0)) None None e (cell_of_is x _ _ (cells_at_is ss ts k 0 e h)) not_found
  find_is ss ts h x ks js (more_scopes k j {ks = ks'} {js = js'} e t) =
      found_else k j (cell_of x (cells_at ss k)) (cell_of (p_ x) (cells_at ts j)) (find ss ks' x) (find ts js' (p_ x)) e (cell_of_is x _ _ (cells_at_is ss ts k j e h)) (find_is ss ts h x _ _ t)

  -- THE PRELUDE'S FUNCTION is found under its name from every scope of the program
  variable_in : (cs ds : List Cell) → CellsAre w cs ds → (cell_of name_variable ds ≡ None) ⊎ (cell_of name_variable ds ≡ constant_at name_variable (9 + w.before))
  variable_in cs ds no_cells = inl refl
  variable_in cs ds (more_cells x constant h t) = variable_in _ _ t
  variable_in cs ds (own_cell d {ds = ds'} own t) = ⊎_elim
      (λ other. let z = if_false (same_text name_variable d.name) (Some d) (cell_of name_variable ds') other in ⊎_elim (λ e. inl (z ∙ e)) (λ e. inr (z ∙ e)) (variable_in cs ds' t))
      (λ same. inr (here d (cell_of name_variable ds') same))
      own.calls
    where
      here : (d : Cell) (o : Option Cell) → Some d ≡ constant_at name_variable (9 + w.before) → (if same_text name_variable d.name then Some d else o) ≡ constant_at name_variable (9 + w.before)
      here d o e = let q : d ≡ record { name = name_variable; value = Some (v.Thing (9 + w.before)); constant = true } = cc in ap (λ c. if same_text name_variable c.name then Some c else o) q

  pub find_variable : (ss ts : List (List Cell)) → Paired (CellsAre w) w.scopes ss ts → TopIs w.before ts → (ks js : List ℕ) → ChainIs w ks js → (j : ℕ) × (find ts js name_variable ≡ Some (record { place = j; cell = fixed_cell name_variable (v.Thing (9 + w.before)) }))
  find_variable ss ts h top ks js (last_scope k e) = (0, ap (λ o. or_else (found_at 0 (cell_of name_variable (option_or o []))) None) top.has ∙ ap (λ o. or_else (found_at 0 o) None) top.base.variable)
  find_variable ss ts h top ks js (more_scopes k j {js = js'} e t) =
      ⊎_elim
      (λ none. let up = find_variable ss ts h top _ js' t in (up.0, ap (λ o. or_else (found_at j o) (find ts js' name_variable)) none ∙ up.1))
      (λ some. (j, ap (λ o. or_else (found_at j o) (find ts js' name_variable)) some))
      (variable_in _ _ (cells_at_is ss ts k j e h))

  -- GIVING A VALUE
  cells_if : (b : Bool) (c d e f : List Cell) → CellsAre w c d → CellsAre w e f → CellsAre w (if b then c else e) (if b then d else f)
  cells_if true c d e f h k = h
  cells_if false c d e f h k = k

  given_cell_is : (x : List ℕ) (constant : Bool) (a b : Value) (o p : Option Value) (cs ds : List Cell) → ValueIs w a b → OptionIs w o p → CellsAre w cs ds → CellsAre w (given_cell a (record { name = x; value = o; constant = constant }) o ∷ cs) (given_cell b (record { name = p_ x; value = p; constant = constant }) p ∷ ds)
  given_cell_is x constant a b o p cs ds h none_is t = more_cells x constant (some_is h) t
  given_cell_is x true a b o p cs ds h (some_is k) t = more_cells x true (some_is k) t
  given_cell_is x false a b o p cs ds h (some_is k) t = more_cells x false (some_is h) t

  pub set_cell_is : (x : List ℕ) (a b : Value) (cs ds : List Cell) → ValueIs w a b → CellsAre w cs ds → CellsAre w (set_cell x a cs) (set_cell (p_ x) b ds)
  set_cell_is x a b cs ds h no_cells = no_cells
  set_cell_is x a b cs ds h (more_cells y constant {a = o} {b = p} {cs = cs'} {ds = ds'} k t) =
      cells_if (same_text x y) _ _ _ _ (given_cell_is y constant a b o p cs' ds' h k t) (more_cells y constant k (set_cell_is x a b _ _ h t))
  set_cell_is x a b cs ds h (own_cell d {ds = ds'} own t) = subst (CellsAre w (set_cell x a cs)) (sym (if_false (same_text (p_ x) d.name) (given_cell b d d.value ∷ ds') (d ∷ set_cell (p_ x) b ds') (own_other x d own))) (own_cell d own (set_cell_is x a b cs ds' h t))

  -- DECLARING
  pub with_cell_is : (x : List ℕ) (constant : Bool) (a b : Option Value) (cs ds : List Cell) → OptionIs w a b → CellsAre w cs ds → CellsAre w (with_cell (record { name = x; value = a; constant = constant }) cs) (with_cell (record { name = p_ x; value = b; constant = constant }) ds)
  with_cell_is x constant a b cs ds h no_cells = more_cells x constant h no_cells
  with_cell_is x constant a b cs ds h (more_cells y c k t) = cells_if (same_text x y) _ _ _ _ (more_cells y constant h t) (more_cells y c k (with_cell_is x constant a b _ _ h t))
  with_cell_is x constant a b cs ds h (own_cell d {ds = ds'} own t) =
      let c : Cell = record { name = p_ x; value = b; constant = constant } in
      subst (CellsAre w (with_cell (record { name = x; value = a; constant = constant }) cs)) (sym (if_false (same_text (p_ x) d.name) (record { name = d.name; value = b; constant = constant } ∷ ds') (d ∷ with_cell c ds') (own_other x d own))) (own_cell d own (with_cell_is x constant a b cs ds' h t))

  -- THE PROGRAM'S OWN SCOPE: the prelude's constants stay what they are
  pub own_stays : (more x : List ℕ) (b : Value) (cs ds : List Cell) → CellsAre w cs ds → cell_of (95 ∷ more) (set_cell (p_ x) b ds) ≡ cell_of (95 ∷ more) ds
  own_stays more x b cs ds no_cells = refl
  own_stays more x b cs ds (more_cells y constant {b = o} {cs = cs'} {ds = ds'} h t) = by (own_stays more x b cs' ds' t) (same_text x y) o constant
    where
      by : cell_of (95 ∷ more) (set_cell (p_ x) b ds') ≡ cell_of (95 ∷ more) ds' → (equal : Bool) (o : Option Value) (constant : Bool) → (let c : Cell = record { name = p_ y; value = o; constant = constant } in cell_of (95 ∷ more) (if equal then given_cell b c o ∷ ds' else c ∷ set_cell (p_ x) b ds') ≡ cell_of (95 ∷ more) ds')
      by more_same true None constant = refl
      by more_same true (Some z) true = refl
      by more_same true (Some z) false = refl
      by more_same false o constant = more_same
  own_stays more x b cs ds (own_cell d {ds = ds'} own t) =
      ap (cell_of (95 ∷ more)) (if_false (same_text (p_ x) d.name) (given_cell b d d.value ∷ ds') (d ∷ set_cell (p_ x) b ds') (own_other x d own)) ∙ ap (λ o. if same_text (95 ∷ more) d.name then Some d else o) (own_stays more x b _ ds' t)

  pub base_stays : (x : List ℕ) (b : Value) (cs ds : List Cell) → CellsAre w cs ds → IsBase w.before ds → IsBase w.before (set_cell (p_ x) b ds)
  base_stays x b cs ds h base =
      record {
        states = own_stays (codes "_states") x b cs ds h ∙ base.states;
        now = own_stays (codes "_now") x b cs ds h ∙ base.now;
        find = own_stays (codes "_find") x b cs ds h ∙ base.find;
        with = own_stays (codes "_with") x b cs ds h ∙ base.with;
        get = own_stays (codes "_get") x b cs ds h ∙ base.get;
        run = own_stays (codes "_run") x b cs ds h ∙ base.run;
        make = own_stays (codes "_make") x b cs ds h ∙ base.make;
        variable = own_stays (codes "_variable") x b cs ds h ∙ base.variable;
      }

  pub top_stays : (x : List ℕ) (b : Value) (ts : List (List Cell)) (j : ℕ) (cs : List Cell) → CellsAre w cs (cells_at ts j) → TopIs w.before ts → TopIs w.before (slice_set ts j (set_cell (p_ x) b (cells_at ts j)))
  top_stays x b ts j cs h top = ⊎_elim
      (λ same.
      let ds = top.cells in
      let here : cells_at ts j ≡ ds = ap (λ i. cells_at ts i) same ∙ ap (λ o. option_or o []) top.has in
      record {
        cells = set_cell (p_ x) b (cells_at ts j);
        has = subst (λ i. slice_get (slice_set ts i (set_cell (p_ x) b (cells_at ts j))) 0 ≡ Some (set_cell (p_ x) b (cells_at ts j))) (sym same) (get_set_same ts 0 ds _ top.has);
        base = base_stays x b cs (cells_at ts j) h (subst (IsBase w.before) (sym here) top.base);
      })
      (λ other. record { cells = top.cells; has = get_set_other ts j 0 _ (λ e. other (sym e)) ∙ top.has; base = top.base })
      (cases_eq j 0)

-- a name has got its value in scopes that correspond
pub record SetIs (w : World) (s r : Store) (k j : ℕ) (x : List ℕ) (a b : Value) : Type 0 where
  pub scopes : Paired (CellsAre w) w.scopes (slice_set s.scopes k (set_cell x a (cells_at s.scopes k))) (slice_set r.scopes j (set_cell (p_ x) b (cells_at r.scopes j)))
  pub top : TopIs w.before (slice_set r.scopes j (set_cell (p_ x) b (cells_at r.scopes j)))
  pub paired : slice_get w.scopes k ≡ Some j

-- a name of the innermost scopes has got its value
pub record SetInIs (w : World) (s r : Store) (ks js : List ℕ) (x : List ℕ) (a b : Value) : Type 0 where
  pub place : ℕ
  pub at : ℕ
  pub set : SetIs w s r place at x a b
  pub source : set_in s ks x a ≡ with_value_at s place x a
  pub target : set_in r js (p_ x) b ≡ with_value_at r at (p_ x) b

module _ (w : World) (s r : Store) where
  pub set_at_is : (x : List ℕ) (a b : Value) (k j : ℕ) → slice_get w.scopes k ≡ Some j → ValueIs w a b → Paired (CellsAre w) w.scopes s.scopes r.scopes → TopIs w.before r.scopes → SetIs w s r k j x a b
  set_at_is x a b k j e h p top =
      let cells = cells_at_is w s.scopes r.scopes k j e p in
      record {
        scopes = paired_set (CellsAre w) w.scopes s.scopes r.scopes k j (set_cell x a (cells_at s.scopes k)) (set_cell (p_ x) b (cells_at r.scopes j)) e (set_cell_is w x a b _ _ h cells) p;
        top = top_stays w x b r.scopes j (cells_at s.scopes k) cells top;
        paired = e;
      }

  pub set_in_is : (x : List ℕ) (a b : Value) (ks js : List ℕ) → ChainIs w ks js → ValueIs w a b → Paired (CellsAre w) w.scopes s.scopes r.scopes → TopIs w.before r.scopes → SetInIs w s r ks js x a b
  set_in_is x a b ks js (last_scope k e) h p top = record { place = k; at = 0; set = set_at_is x a b k 0 e h p top; source = refl; target = refl }
  set_in_is x a b ks js (more_scopes k j e t) h p top = record { place = k; at = j; set = set_at_is x a b k j e h p top; source = refl; target = refl }
