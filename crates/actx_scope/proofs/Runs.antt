-- What a walk over a tree does to the state: it passes the tree's nodes, links its names, and keeps its first offence.
use Rattle.std.proofs.Common.{◌≡◌, ℕ, suc, ◌+◌, Bool, true, false, List, [], ◌∷◌, ◌++◌, length, Option, Some, None, if◌then◌else◌, refl, sym, ◌∙◌, ap, append_assoc, append-nil, arith}
use Rattle.actx_grammar.specs.Static.{Declared, Offence, Place, twice, reserved, undeclared, is_among, names_of, unbindable, unusable, offends_if, behind, all_behind, looped, use_offences, target_offences, binding_offences, params_offences}
use Rattle.actx_scope.specs.declared.fault.CheckFault.{CheckFault}
use Rattle.actx_scope.specs.declared.link.Link.{Link}
use Rattle.actx_scope.specs.declared.link.Link.TheVariants.{Nothing, To, Free}
use Rattle.actx_scope.specs.Faults.{fault_of, first_fault, first_some}
use Rattle.actx_scope.specs.Found.{found, grown, outer_part}
use Rattle.actx_scope.specs.Links.{linked, link_of, free_of, params_links}
use Rattle.actx_scope.specs.Machine.{State, passed, offending, used, targeted, bound, outside, left, bound_count, forgotten, part, is_looped, with_loop, loop_part, never, params_walk}
use Rattle.actx_scope.proofs.NameLists.{outer_behind, used_lost}

-- from one state to another: the nodes that stand between and what they refer to, the offences among them, and the place behind
-- them, where none offends
pub record Does (s t : State) (os : List Offence) (p : Place) (m : ℕ) (more : List Link) : Type 0 where
  pub counted : t.at ≡ m
  pub linked_more : t.links ≡ s.links ++ more
  pub knows : t.place.known ≡ s.place.known
  pub faulted : s.fault ≡ None → t.fault ≡ first_fault os
  pub stuck : (f : CheckFault) → s.fault ≡ Some f → t.fault ≡ Some f
  pub placed : s.fault ≡ None → os ≡ [] → t.place ≡ p
  pub resolved : s.fault ≡ None → os ≡ [] → free_of more ≡ []

pub record Runs (w : State → State) (o : Place → ℕ → List Offence) (q : Place → ℕ → Place) (m : ℕ → ℕ) (l : List Declared → ℕ → List Link) : Type 0 where
  pub run : (s : State) → Does s (w s) (o s.place s.at) (q s.place s.at) (m s.at) (l s.place.known s.at)

-- a walk that leaves the place
abbrev pub same : Place → ℕ → Place
same p n = p

-- one node that refers to nothing
abbrev pub unlinked : List Declared → ℕ → List Link
unlinked ks n = Nothing ∷ []

-- LISTS
none_first : (xs ys : List Offence) → xs ++ ys ≡ [] → xs ≡ []
none_first [] ys e = refl
none_first (x ∷ xs) ys e = absurd cc

none_second : (xs ys : List Offence) → xs ++ ys ≡ [] → ys ≡ []
none_second [] ys e = e
none_second (x ∷ xs) ys e = absurd cc

pub free_of-append : (xs ys : List Link) → free_of (xs ++ ys) ≡ free_of xs ++ free_of ys
free_of-append [] ys = refl
free_of-append (Nothing ∷ xs) ys = free_of-append xs ys
free_of-append (To n ∷ xs) ys = free_of-append xs ys
free_of-append (Free x ∷ xs) ys = ap (λ (zs : List (List ℕ)). x ∷ zs) (free_of-append xs ys)

-- ONE BEHIND THE OTHER
module _ (s t u : State) (os : List Offence) (p : Place) (m : ℕ) (more : List Link) (o : Place → ℕ → List Offence) (q : Place → ℕ → Place) (k : ℕ → ℕ) (l : List Declared → ℕ → List Link) where
  seq_does : Does s t os p m more → Does t u (o t.place t.at) (q t.place t.at) (k t.at) (l t.place.known t.at) → Does s u (os ++ o p m) (q p m) (k m) (more ++ l s.place.known m)
  seq_does d b = record {
    counted = b.counted ∙ ap k d.counted;
    linked_more = b.linked_more ∙ (λ i. d.linked_more i ++ links i) ∙ append_assoc s.links more (l s.place.known m);
    knows = b.knows ∙ d.knows;
    faulted = λ e. by e os refl;
    stuck = λ f e. b.stuck f (d.stuck f e);
    placed = λ e h. b.placed (calm e h) (second e h) ∙ (λ i. q (d.placed e (none_first os (o p m) h) i) (d.counted i));
    resolved = λ e h.
        free_of-append more (l s.place.known m)
        ∙ (λ i. d.resolved e (none_first os (o p m) h) i ++ free_of (l s.place.known m))
        ∙ sym (ap free_of links) ∙ b.resolved (calm e h) (second e h);
  }
    where
      links : l t.place.known t.at ≡ l s.place.known m
      links = (λ i. l (d.knows i) (d.counted i))

      calm : s.fault ≡ None → os ++ o p m ≡ [] → t.fault ≡ None
      calm e h = d.faulted e ∙ ap first_fault (none_first os (o p m) h)

      second : s.fault ≡ None → os ++ o p m ≡ [] → o t.place t.at ≡ []
      second e h = (λ i. o (d.placed e (none_first os (o p m) h) i) (d.counted i)) ∙ none_second os (o p m) h

      by : s.fault ≡ None → (xs : List Offence) → os ≡ xs → u.fault ≡ first_fault (os ++ o p m)
      by e [] h =
          b.faulted (d.faulted e ∙ ap first_fault h)
          ∙ (λ i. first_fault (o (d.placed e h i) (d.counted i)))
          ∙ sym (ap (λ (z : List Offence). first_fault (z ++ o p m)) h)
      by e (x ∷ xs) h = b.stuck (fault_of x) (d.faulted e ∙ ap first_fault h) ∙ sym (ap (λ (z : List Offence). first_fault (z ++ o p m)) h)

module _ {w v : State → State} {o r : Place → ℕ → List Offence} {q e : Place → ℕ → Place} {m k : ℕ → ℕ} {l j : List Declared → ℕ → List Link} where
  pub seq : Runs w o q m l → Runs v r e k j → Runs (λ s. v (w s)) (λ p n. o p n ++ r (q p n) (m n)) (λ p n. e (q p n) (m n)) (λ n. k (m n)) (λ ks n. l ks n ++ j ks (m n))
  seq a b = record { run = λ s. seq_does s (w s) (v (w s)) (o s.place s.at) (q s.place s.at) (m s.at) (l s.place.known s.at) r e k j (a.run s) (b.run (w s)) }

-- the second knows the number at which the first began
module _ {w : State → State} {v : ℕ → State → State} {o : Place → ℕ → List Offence} {r : ℕ → Place → ℕ → List Offence} {q : Place → ℕ → Place} {e : ℕ → Place → ℕ → Place} {m k : ℕ → ℕ} {l : List Declared → ℕ → List Link} {j : ℕ → List Declared → ℕ → List Link} where
  pub seq_from : Runs w o q m l → ((n : ℕ) → Runs (v n) (r n) (e n) k (j n)) → Runs (λ s. v s.at (w s)) (λ p n. o p n ++ r n (q p n) (m n)) (λ p n. e n (q p n) (m n)) (λ n. k (m n)) (λ ks n. l ks n ++ j n ks (m n))
  seq_from a b = record { run = λ s. seq_does s (w s) (v s.at (w s)) (o s.place s.at) (q s.place s.at) (m s.at) (l s.place.known s.at) (r s.at) (e s.at) k (j s.at) (a.run s) ((b s.at).run (w s)) }

-- THE SAME IN OTHER WORDS
like_does : (s t : State) (os rs : List Offence) (p q : Place) (m k : ℕ) (more less : List Link) → os ≡ rs → p ≡ q → m ≡ k → more ≡ less → Does s t os p m more → Does s t rs q k less
like_does s t os rs p q m k more less e f g h d = record {
  counted = d.counted ∙ g;
  linked_more = d.linked_more ∙ ap (λ (ls : List Link). s.links ++ ls) h;
  knows = d.knows;
  faulted = λ z. d.faulted z ∙ ap first_fault e;
  stuck = d.stuck;
  placed = λ z y. d.placed z (e ∙ y) ∙ f;
  resolved = λ z y. sym (ap free_of h) ∙ d.resolved z (e ∙ y);
}

module _ {w : State → State} {o r : Place → ℕ → List Offence} {q e : Place → ℕ → Place} {m k : ℕ → ℕ} {l j : List Declared → ℕ → List Link} where
  pub like : ((p : Place) (n : ℕ) → o p n ≡ r p n) → ((p : Place) (n : ℕ) → q p n ≡ e p n) → ((n : ℕ) → m n ≡ k n) → ((ks : List Declared) (n : ℕ) → l ks n ≡ j ks n) → Runs w o q m l → Runs w r e k j
  like a b c d x = record { run = λ s. like_does s (w s) (o s.place s.at) (r s.place s.at) (q s.place s.at) (e s.place s.at) (m s.at) (k s.at) (l s.place.known s.at) (j s.place.known s.at) (a s.place s.at) (b s.place s.at) (c s.at) (d s.place.known s.at) (x.run s) }

module _ {w : State → State} {o : Place → ℕ → List Offence} {q : Place → ℕ → Place} {m k : ℕ → ℕ} {l : List Declared → ℕ → List Link} where
  pub ends : ((n : ℕ) → m n ≡ k n) → Runs w o q m l → Runs w o q k l
  ends c x = like (λ p n. refl) (λ p n. refl) c (λ ks n. refl) x

-- AT A NODE
leaf_does : (s : State) (os : List Offence) (p q : Place) (link : Link) → (os ≡ [] → p ≡ q) → p.known ≡ s.place.known → (os ≡ [] → free_of (link ∷ []) ≡ [])
    → Does s (record { place = p; at = suc s.at; links = s.links ++ link ∷ []; fault = first_some s.fault (first_fault os) }) os q (suc s.at) (link ∷ [])
leaf_does s os p q link e k f = record {
  counted = refl;
  linked_more = refl;
  knows = k;
  faulted = λ z. ap (λ (f : Option CheckFault). first_some f (first_fault os)) z;
  stuck = λ f z. ap (λ (g : Option CheckFault). first_some g (first_fault os)) z;
  placed = λ z y. e y;
  resolved = λ z y. f y;
}

pub passed_runs : Runs (passed Nothing) never same suc unlinked
unfolding passed
passed_runs = record {
  run = λ s. record {
    counted = refl;
    linked_more = refl;
    knows = refl;
    faulted = λ z. z;
    stuck = λ f z. z;
    placed = λ z y. refl;
    resolved = λ z y. refl;
  };
}

pub offending_runs : (o : Place → ℕ → List Offence) → Runs (offending o) o same suc unlinked
unfolding offending
offending_runs o = record { run = λ s. leaf_does s (o s.place s.at) s.place s.place Nothing (λ y. refl) refl (λ y. refl) }

-- a use that doesn't offend is one of a name that is declared
use_resolved : (p : Place) (n : ℕ) (x : List ℕ) → use_offences p n x ≡ [] → free_of (link_of p.known x ∷ []) ≡ []
use_resolved p n x y = by (is_among unusable x) refl (found p.known x) refl
  where
    by : (b : Bool) → is_among unusable x ≡ b → (o : Option ℕ) → found p.known x ≡ o → free_of (link_of p.known x ∷ []) ≡ []
    by true e o f =
        let h : offends_if true n reserved ≡ [] = sym (ap (λ z. if z then offends_if true n reserved else offends_if (if is_among (names_of p.known) x then false else true) n undeclared) e) ∙ y in
        absurd cc
    by false e (Some k) f = ap (λ (o : Option ℕ). free_of (linked x o ∷ [])) f
    by false e None f =
        let h : offends_if true n undeclared ≡ [] = sym (used_lost p n x e f) ∙ y in
        absurd cc

target_resolved : (p : Place) (n : ℕ) (x : List ℕ) → target_offences p n x ≡ [] → free_of (link_of p.known x ∷ []) ≡ []
target_resolved p n x y = by (is_among unbindable x) refl
  where
    by : (b : Bool) → is_among unbindable x ≡ b → free_of (link_of p.known x ∷ []) ≡ []
    by true e =
        let h : offends_if true n reserved ≡ [] = sym (ap (λ z. if z then offends_if true n reserved else use_offences p n x) e) ∙ y in
        absurd cc
    by false e = use_resolved p n x (sym (ap (λ z. if z then offends_if true n reserved else use_offences p n x) e) ∙ y)

pub used_runs : (x : List ℕ) → Runs (used x) (λ p n. use_offences p n x) same suc (λ ks n. link_of ks x ∷ [])
unfolding used
used_runs x = record { run = λ s. leaf_does s (use_offences s.place s.at x) s.place s.place (link_of s.place.known x) (λ y. refl) refl (use_resolved s.place s.at x) }

pub targeted_runs : (x : List ℕ) → Runs (targeted x) (λ p n. target_offences p n x) same suc (λ ks n. link_of ks x ∷ [])
unfolding targeted
targeted_runs x = record { run = λ s. leaf_does s (target_offences s.place s.at x) s.place s.place (link_of s.place.known x) (λ y. refl) refl (target_resolved s.place s.at x) }

-- a name that doesn't offend is new
grows : (p : Place) (n : ℕ) (x : List ℕ) → binding_offences p n x ≡ [] → record p { bound = grown p.bound x } ≡ behind x p
grows p n x y = by (is_among p.bound x) refl
  where
    by : (b : Bool) → is_among p.bound x ≡ b → record p { bound = grown p.bound x } ≡ behind x p
    by true e =
        let h : offends_if true n twice ≡ [] = sym (ap (λ z. if z then offends_if true n twice else offends_if (is_among unbindable x) n reserved) e) ∙ y in
        absurd cc
    by false e = ap (λ z. record p { bound = if z then p.bound else x ∷ p.bound }) e

pub bound_runs : (x : List ℕ) → Runs (bound x) (λ p n. binding_offences p n x) (λ p n. behind x p) suc unlinked
unfolding bound
bound_runs x = record { run = λ s. leaf_does s (binding_offences s.place s.at x) (record s.place { bound = grown s.place.bound x }) (behind x s.place) Nothing (grows s.place s.at x) refl (λ y. refl) }

-- NOTHING
pub nothing_runs : Runs (λ s. s) never same (λ n. n) (λ ks n. [])
nothing_runs = record {
  run = λ s. record {
    counted = refl;
    linked_more = sym (append-nil s.links);
    knows = refl;
    faulted = λ z. z;
    stuck = λ f z. z;
    placed = λ z y. refl;
    resolved = λ z y. refl;
  };
}

pub params_runs : (xs : List (List ℕ)) → Runs (params_walk xs) (λ p n. params_offences p n xs) (λ p n. all_behind xs p) (λ n. n + length xs) (λ ks n. params_links xs)
params_runs [] = ends (λ n. omega arith) nothing_runs
params_runs (x ∷ xs) = ends (λ n. omega arith) (seq (bound_runs x) (params_runs xs))

-- SCOPES
-- what is known is what was known before, behind what the scope declares
module _ (w : State → State) (o : Place → ℕ → List Offence) (q : Place → ℕ → Place) (m : ℕ → ℕ) (l : List Declared → ℕ → List Link) (into : Place → ℕ → Place) (ds : ℕ → List Declared) where
  pub scope_runs : ((p : Place) (n : ℕ) → (into p n).known ≡ ds n ++ p.known) → Runs w o q m l
      → Runs (λ s. left (outside s) (w (record s { place = into s.place s.at }))) (λ p n. o (into p n) n) same m (λ ks n. l (ds n ++ ks) n)
  unfolding left outside
  scope_runs opens x = record {
    run = λ s.
        let t : State = record s { place = into s.place s.at } in
        let d = x.run t in
        let known : outer_part (length s.place.known) (w t).place.known ≡ s.place.known =
        ap (outer_part (length s.place.known)) (d.knows ∙ opens s.place s.at) ∙ outer_behind (ds s.at) s.place.known in
        record {
          counted = d.counted;
          linked_more = d.linked_more ∙ ap (λ (ks : List Declared). s.links ++ l ks s.at) (opens s.place s.at);
          knows = known;
          faulted = d.faulted;
          stuck = d.stuck;
          placed = λ z y. (λ i. record s.place { known = known i });
          resolved = λ z y. sym (ap (λ (ks : List Declared). free_of (l ks s.at)) (opens s.place s.at)) ∙ d.resolved z y;
        };
  }

-- PARTS
module _ (w : State → State) (o : Place → ℕ → List Offence) (q : Place → ℕ → Place) (m : ℕ → ℕ) (l : List Declared → ℕ → List Link) where
  pub part_runs : ((p : Place) (n : ℕ) → record (q p n) { bound = outer_part (length p.bound) (q p n).bound } ≡ p) → Runs w o q m l → Runs (part w) o same m l
  unfolding forgotten bound_count
  part_runs keeps x = record {
    run = λ s.
        let d = x.run s in
        record {
          counted = d.counted;
          linked_more = d.linked_more;
          knows = d.knows;
          faulted = d.faulted;
          stuck = d.stuck;
          placed = λ z y. ap (λ (p : Place). record p { bound = outer_part (length s.place.bound) p.bound }) (d.placed z y) ∙ keeps s.place s.at;
          resolved = d.resolved;
        };
  }

  pub loop_runs : ((p : Place) (n : ℕ) → record (q p n) { bound = outer_part (length p.bound) (q p n).bound } ≡ p) → Runs w o q m l → Runs (loop_part w) (λ p n. o (looped p) n) same m l
  unfolding with_loop is_looped
  loop_runs keeps x = record {
    run = λ s.
        let d = (part_runs keeps x).run (with_loop true s) in
        record {
          counted = d.counted;
          linked_more = d.linked_more;
          knows = d.knows;
          faulted = d.faulted;
          stuck = d.stuck;
          placed = λ z y. ap (λ (p : Place). record p { in_loop = s.place.in_loop }) (d.placed z y);
          resolved = d.resolved;
        };
  }
