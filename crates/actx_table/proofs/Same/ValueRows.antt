-- The rows of operations on values, and of names that are read and set.
use Rattle.std.proofs.Common.{◌≡◌, ℕ, Bool, true, false, List, [], length, Option, Some, None, refl, sym, subst}
use Rattle.std.specs.Prelude.{if◌then◌else◌}
use Rattle.actx_data.specs.declared.end.End.TheVariants.{Left}
use Rattle.actx_data.specs.declared.shown.ErrorName.{ErrorName}
use Rattle.actx_data.specs.declared.shown.ErrorName.TheVariants.{ReferenceError, TypeError}
use Rattle.actx_data.specs.declared.trace.TraceEvent.TheVariants.{Out}
use Rattle.actx_data.specs.declared.value.Value.{Value}
use Rattle.actx_data.specs.declared.value.Value.TheVariants as v
use Rattle.actx_grammar.specs.declared.operators.BinaryOp.{BinaryOp}
use Rattle.actx_grammar.specs.declared.operators.UnaryOp.{UnaryOp}
use Rattle.actx_heap.specs.Properties.{get, put}
use Rattle.actx_heap.specs.Things.{Prop, Thing}
use Rattle.actx_heap.specs.declared.answers.Got.{Got}
use Rattle.actx_heap.specs.declared.answers.Put.{Put}
use Rattle.actx_table.specs.Answers.{makes, throws, answered}
use Rattle.actx_table.specs.Expressions.{with_read, write_name, write_found, change_name, bumped, bump_name, eval_bump, unary_rule, binary_rule, set_rule, read_rule, write_rule, put_answered, literal, object_made}
use Rattle.actx_table.specs.Forms.{error_of, error_form, log}
use Rattle.actx_table.specs.Low.{p_}
use Rattle.actx_table.specs.Operators.{primitive_text, unary}
use Rattle.actx_table.specs.Related.{World, ValueIs, undefined_is, null_is, truth_is, num_is, text_is, thing_is, ValuesAre, no_values, more_values, none_is, some_is, no_props, ThingIs, failure_is, plain_is, Wait, ForValue, given_is, here, MoveIs, goes_is, writes_is, stops_is}
use Rattle.actx_table.specs.Scopes.{Found, find}
use Rattle.actx_table.specs.Showing.{is_line, line_of}
use Rattle.actx_table.specs.State.{Code, Given, Frame, Store, Move, Writes, Stops}
use Rattle.actx_table.proofs.Same.Growth.{grows_thing, thing_world, value_later, chain_later, frames_later, later_thing, later_heap}
use Rattle.actx_table.proofs.Same.Names.{FoundIs, not_found, found, find_is, set_at_is}
use Rattle.actx_table.proofs.Same.Alike.{GotIs, gives_is, throws_is, leaves_is, line_same, is_line_same}
use Rattle.actx_table.proofs.Same.Operators.{binary_is, unary_is, bumped_is}
use Rattle.actx_table.proofs.Same.Reading.{read_is, OptPropsAre, no_list, some_list, literal_is, PutIs, put_throws, put_leaves, put_done, put_is}
use Rattle.actx_table.proofs.Same.Stores.{store_thing, new_value, store_put, lasts_put}
use Rattle.actx_table.proofs.Same.Joins.{throws_rule}
use Rattle.actx_table.proofs.Same.At.{At, gives_at, value_at}

module _ {w : World} where
  -- ANSWERS
  pub throws_at : {wait : Wait} (name : ErrorName) {fs gs : List Frame} {s r : Store} → At w wait fs gs s r → MoveIs (throws name fs s) (throws name gs r)
  throws_at {wait = wait} name {fs = fs} {gs = gs} {s = s} {r = r} h = throws_rule w name wait (Given v.Undefined) fs gs s r h.frames (here h.chain h.receiver) h.store

  pub makes_at : {a b : Thing Code} {fs gs : List Frame} {s r : Store} → ThingIs w a b → At w ForValue fs gs s r → MoveIs (makes a fs s) (makes b gs r)
  makes_at {a = a} {b = b} {s = s} {r = r} x h =
      let w' = thing_world w (length r.heap) in
      let grows = grows_thing w (length r.heap) in
      goes_is w' (given_is (new_value w s r h.store) (frames_later (later_thing w r.heap r.scopes b) h.frames)) (here (chain_later w w' grows _ _ h.chain) (value_later w w' grows _ _ h.receiver)) (store_thing w s r h.store a b x)

  pub answered_at : {x y : Got} {fs gs : List Frame} {s r : Store} → GotIs w x y → At w ForValue fs gs s r → MoveIs (answered x fs s) (answered y gs r)
  answered_at (gives_is x) h = gives_at x h
  answered_at throws_is h = throws_at TypeError h
  answered_at leaves_is h = stops_is Left

  -- NAMES
  pub read_found : {x y : Option Found} {fs gs : List Frame} {s r : Store} (go back : Value → Move) → FoundIs w x y → ((a b : Value) → ValueIs w a b → MoveIs (go a) (back b)) → At w ForValue fs gs s r → MoveIs (with_read x go fs s) (with_read y back gs r)
  read_found go back not_found rule h = stops_is Left
  read_found go back (found k j x constant e none_is) rule h = throws_at ReferenceError h
  read_found go back (found k j x constant e (some_is a)) rule h = rule _ _ a

  pub name_read : (x : List ℕ) {fs gs : List Frame} {s r : Store} (go back : Value → Move) → ((a b : Value) → ValueIs w a b → MoveIs (go a) (back b)) → At w ForValue fs gs s r → MoveIs (with_read (find s.scopes s.scope x) go fs s) (with_read (find r.scopes r.scope (p_ x)) back gs r)
  name_read x {s = s} {r = r} go back rule h = read_found go back (find_is w s.scopes r.scopes h.store.scopes x s.scope r.scope h.chain) rule h

  written : {o p : Option Found} (x : List ℕ) {a b c d : Value} {fs gs : List Frame} {s r : Store} → FoundIs w o p → ValueIs w a b → ValueIs w c d → At w ForValue fs gs s r → MoveIs (write_found o x a c fs s) (write_found p (p_ x) b d gs r)
  written x not_found v u h = stops_is Left
  written x (found k j y constant e none_is) v u h = throws_at ReferenceError h
  written x (found k j y true e (some_is o)) v u h = throws_at TypeError h
  written x {a = a} {b = b} {s = s} {r = r} (found k j y false e (some_is o)) v u h = gives_at u (value_at h k j x a b (set_at_is w s r x a b k j e v h.store.scopes h.store.top))

  pub name_written : (x : List ℕ) {a b c d : Value} {fs gs : List Frame} {s r : Store} → ValueIs w a b → ValueIs w c d → At w ForValue fs gs s r → MoveIs (write_name x a c fs s) (write_name (p_ x) b d gs r)
  name_written x {s = s} {r = r} v u h = written x (find_is w s.scopes r.scopes h.store.scopes x s.scope r.scope h.chain) v u h

  pub name_changed : {x y : Got} (n : List ℕ) {fs gs : List Frame} {s r : Store} → GotIs w x y → At w ForValue fs gs s r → MoveIs (change_name x n fs s) (change_name y (p_ n) gs r)
  name_changed n (gives_is v) h = name_written n v v h
  name_changed n throws_is h = throws_at TypeError h
  name_changed n leaves_is h = stops_is Left

  bump_at : {x y : Got} (before : Bool) {a b : Value} (n : List ℕ) {fs gs : List Frame} {s r : Store} → GotIs w x y → ValueIs w a b → At w ForValue fs gs s r → MoveIs (bump_name x before a n fs s) (bump_name y before b (p_ n) gs r)
  bump_at true n (gives_is v) o h = name_written n v v h
  bump_at false n (gives_is v) o h = name_written n v o h
  bump_at before n throws_is o h = stops_is Left
  bump_at before n leaves_is o h = stops_is Left

  pub name_bumped : (x : List ℕ) (up before : Bool) {fs gs : List Frame} {s r : Store} → At w ForValue fs gs s r → MoveIs (eval_bump x up before fs s) (eval_bump (p_ x) up before gs r)
  name_bumped x up before {fs = fs} {gs = gs} {s = s} {r = r} h = name_read x (λ old. bump_name (bumped up old) before old x fs s) (λ old. bump_name (bumped up old) before old (p_ x) gs r) (λ a b v. bump_at before x (bumped_is w up a b v) v h) h

  -- OPERATIONS
  pub unary_at : (op : UnaryOp) {xs ys : List Value} {fs gs : List Frame} {s r : Store} → ValuesAre w xs ys → At w ForValue fs gs s r → MoveIs (unary_rule xs (unary s.heap op) fs s) (unary_rule ys (unary r.heap op) gs r)
  unary_at op no_values h = stops_is Left
  unary_at op {s = s} {r = r} (more_values x no_values) h = answered_at (unary_is w s.heap r.heap h.store.heap op _ _ x) h
  unary_at op (more_values x (more_values y t)) h = stops_is Left

  pub binary_at : (op : BinaryOp) {xs ys : List Value} {fs gs : List Frame} {s r : Store} → ValuesAre w xs ys → At w ForValue fs gs s r → MoveIs (binary_rule op xs fs s) (binary_rule op ys gs r)
  binary_at op no_values h = stops_is Left
  binary_at op (more_values x no_values) h = stops_is Left
  binary_at op {s = s} {r = r} (more_values x (more_values y no_values)) h = answered_at (binary_is w s.heap r.heap h.store.heap op _ _ _ _ x y) h
  binary_at op (more_values x (more_values y (more_values z t))) h = stops_is Left

  pub set_rule_at : (x : List ℕ) {xs ys : List Value} {fs gs : List Frame} {s r : Store} → ValuesAre w xs ys → At w ForValue fs gs s r → MoveIs (set_rule x xs fs s) (set_rule (p_ x) ys gs r)
  set_rule_at x no_values h = stops_is Left
  set_rule_at x (more_values v no_values) h = name_written x v v h
  set_rule_at x (more_values v (more_values u t)) h = stops_is Left

  pub property_read : {a b k l : Value} {fs gs : List Frame} {s r : Store} → ValueIs w a b → ValueIs w k l → At w ForValue fs gs s r → MoveIs (answered (get s.heap a k) fs s) (answered (get r.heap b l) gs r)
  property_read {s = s} {r = r} x k h = answered_at (read_is w s.heap r.heap h.store.heap _ _ _ _ x k) h

  pub read_at : (key : Option (List ℕ)) {xs ys : List Value} {fs gs : List Frame} {s r : Store} → ValuesAre w xs ys → At w ForValue fs gs s r → MoveIs (read_rule key xs fs s) (read_rule key ys gs r)
  read_at (Some key) no_values h = stops_is Left
  read_at (Some key) (more_values x no_values) h = property_read x (text_is key) h
  read_at (Some key) (more_values x (more_values y t)) h = stops_is Left
  read_at None no_values h = stops_is Left
  read_at None (more_values x no_values) h = stops_is Left
  read_at None (more_values x (more_values k no_values)) h = property_read x k h
  read_at None (more_values x (more_values k (more_values y t))) h = stops_is Left

  -- the answer and the heap that is then
  put_at : {x y : Put × List (Thing Code)} {a b : Value} {fs gs : List Frame} {s r : Store} → PutIs w s.heap r.heap x y → ValueIs w a b → At w ForValue fs gs s r → MoveIs (put_answered x a fs s) (put_answered y b gs r)
  put_at put_throws v h = throws_at TypeError h
  put_at put_leaves v h = stops_is Left
  put_at {s = s} {r = r} (put_done k j {ps = ps} {qs = qs} e old at p) v h =
      gives_at v (record { frames = frames_later (later_heap w r.heap r.scopes _ (lasts_put w s r h.store j _ qs at)) h.frames; chain = h.chain; receiver = h.receiver; store = store_put w s r h.store k j _ ps qs e at (plain_is p) })

  pub property_written : {a b k l x y : Value} {fs gs : List Frame} {s r : Store} → ValueIs w a b → ValueIs w k l → ValueIs w x y → At w ForValue fs gs s r → MoveIs (put_answered (put s.heap a k x) x fs s) (put_answered (put r.heap b l y) y gs r)
  property_written {s = s} {r = r} a k x h = put_at (put_is w s.heap r.heap h.store.heap _ _ _ _ _ _ a k x) x h

  pub write_at : (key : Option (List ℕ)) {xs ys : List Value} {fs gs : List Frame} {s r : Store} → ValuesAre w xs ys → At w ForValue fs gs s r → MoveIs (write_rule key xs fs s) (write_rule key ys gs r)
  write_at (Some key) no_values h = stops_is Left
  write_at (Some key) (more_values x no_values) h = stops_is Left
  write_at (Some key) (more_values x (more_values y no_values)) h = property_written x (text_is key) y h
  write_at (Some key) (more_values x (more_values y (more_values z t))) h = stops_is Left
  write_at None no_values h = stops_is Left
  write_at None (more_values x no_values) h = stops_is Left
  write_at None (more_values x (more_values k no_values)) h = stops_is Left
  write_at None (more_values x (more_values k (more_values y no_values))) h = property_written x k y h
  write_at None (more_values x (more_values k (more_values y (more_values z t)))) h = stops_is Left

  literal_made : {x y : Option (List Prop)} {fs gs : List Frame} {s r : Store} → OptPropsAre w x y → At w ForValue fs gs s r → MoveIs (object_made x fs s) (object_made y gs r)
  literal_made no_list h = stops_is Left
  literal_made (some_list p) h = makes_at (plain_is p) h

  pub object_at : (keys : List (Option (List ℕ))) {xs ys : List Value} {fs gs : List Frame} {s r : Store} → ValuesAre w xs ys → At w ForValue fs gs s r → MoveIs (object_made (literal keys xs []) fs s) (object_made (literal keys ys []) gs r)
  object_at keys x h = literal_made (literal_is w keys _ _ [] [] x no_props) h

  -- FORMS
  message_at : (name : ErrorName) (o p : Option (List ℕ)) {fs gs : List Frame} {s r : Store} → p ≡ o → At w ForValue fs gs s r → MoveIs (error_of name o fs s) (error_of name p gs r)
  message_at name o p {fs = fs} {gs = gs} {s = s} {r = r} e h = subst (λ q. MoveIs (error_of name o fs s) (error_of name q gs r)) (sym e) (by o)
    where
      by : (o : Option (List ℕ)) → MoveIs (error_of name o fs s) (error_of name o gs r)
      by (Some message) = makes_at (failure_is name message) h
      by None = stops_is Left

  pub error_at : (name : ErrorName) {xs ys : List Value} {fs gs : List Frame} {s r : Store} → ValuesAre w xs ys → At w ForValue fs gs s r → MoveIs (error_form name xs fs s) (error_form name ys gs r)
  error_at name no_values h = makes_at (failure_is name []) h
  error_at name (more_values undefined_is t) h = makes_at (failure_is name []) h
  error_at name (more_values null_is t) h = message_at name (primitive_text v.Null) (primitive_text v.Null) refl h
  error_at name (more_values (truth_is b) t) h = message_at name (primitive_text (v.Truth b)) (primitive_text (v.Truth b)) refl h
  error_at name (more_values (num_is z) t) h = message_at name (primitive_text (v.Num z)) (primitive_text (v.Num z)) refl h
  error_at name (more_values (text_is u) t) h = message_at name (primitive_text (v.Text u)) (primitive_text (v.Text u)) refl h
  error_at name (more_values (thing_is k j e) t) h = stops_is Left

  pub log_at : {xs ys : List Value} {fs gs : List Frame} {s r : Store} → ValuesAre w xs ys → At w ForValue fs gs s r → MoveIs (log xs fs s) (log ys gs r)
  log_at {xs = xs} {ys = ys} {fs = fs} {gs = gs} {s = s} {r = r} x h = by (is_line s.heap xs) (is_line r.heap ys) (line_of r.heap ys) (is_line_same w s.heap r.heap h.store.heap xs ys x) (line_same w s.heap r.heap h.store.heap xs ys x)
    where
      by : (b d : Bool) (line : List ℕ) → d ≡ b → line ≡ line_of s.heap xs → MoveIs (if b then Writes (Out (line_of s.heap xs)) (Given v.Undefined) fs s else Stops Left) (if d then Writes (Out line) (Given v.Undefined) gs r else Stops Left)
      by true true line q e = subst (λ l. MoveIs (Writes (Out (line_of s.heap xs)) (Given v.Undefined) fs s) (Writes (Out l) (Given v.Undefined) gs r)) (sym e) (writes_is (Out (line_of s.heap xs)) w (given_is undefined_is h.frames) (here h.chain h.receiver) h.store)
      by false false line q e = stops_is Left
      by true false line q e = absurd (cc)
      by false true line q e = absurd (cc)
