-- Small plain programs, with the lines that a JavaScript engine prints for them.
use Rattle.std.proofs.Common.{◌≡◌, [], ◌∷◌, Some, None, true, false, refl}
use Rattle.std.specs.Prelude.{codes}
use Rattle.actx_data.specs.declared.end.End.TheVariants.{Ended, Left}
use Rattle.actx_data.specs.declared.trace.TraceEvent.TheVariants.{Out, Start}
use Rattle.actx_data.specs.declared.shown.ErrorName.TheVariants as n
use Rattle.actx_grammar.specs.declared.operators.BinaryOp.TheVariants as o
use Rattle.actx_grammar.specs.declared.operators.LogicOp.TheVariants as l
use Rattle.actx_grammar.specs.declared.operators.UnaryOp.TheVariants as u
use Rattle.actx_grammar.specs.declared.operators.Form.TheVariants as f
use Rattle.actx_grammar.specs.declared.operators.FunctionKind.TheVariants as k
use Rattle.actx_grammar.specs.Tree as t
use Rattle.actx_table.proofs.Drive.{shows, one}

-- let s = ""; let i = 0;
-- while (true) { i++; if (i === 2) { continue; } if (i > 4) break; s += i === 1 ? "a" : i === 3 ? "b" : "c"; }
-- do { s += "d"; i -= 1; } while (i >= 4);
-- console.log(s);
loops : shows 400 (t.next (t.Let (t.let_item (codes "s") (t.some_expr (t.Text (codes ""))) t.no_lets)) (t.next (t.Let (t.let_item (codes "i") (t.some_expr (t.Num 0)) t.no_lets)) (t.next (t.While (t.Truth true) (t.Block (t.next (t.Value (t.Bump (codes "i") true false)) (t.next (t.If (t.Binary o.Same (t.Named (codes "i")) (t.Num 2)) (t.Block (t.next t.Continue t.end)) t.no_stmt) (t.next (t.If (t.Binary o.More (t.Named (codes "i")) (t.Num 4)) t.Break t.no_stmt) (t.next (t.Value (t.Change (codes "s") o.Add (t.Choice (t.Binary o.Same (t.Named (codes "i")) (t.Num 1)) (t.Text (codes "a")) (t.Choice (t.Binary o.Same (t.Named (codes "i")) (t.Num 3)) (t.Text (codes "b")) (t.Text (codes "c")))))) t.end)))))) (t.next (t.DoWhile (t.Block (t.next (t.Value (t.Change (codes "s") o.Add (t.Text (codes "d")))) (t.next (t.Value (t.Change (codes "i") o.Sub (t.Num 1))) t.end))) (t.Binary o.MoreSame (t.Named (codes "i")) (t.Num 4))) (t.next (t.Value (t.Built f.Log (t.also (t.Named (codes "s")) t.none))) t.end)))))
    ≡ (Ended, Out (codes "abcdd") ∷ [])
loops = refl

-- function f(x) { try { if (x === 0) { return "r"; } throw "t"; } catch (e) { return e + "c"; } finally { console.log("fin"); } }
-- console.log(f(0), f(1));
-- function g() { while (true) { try { return "lost"; } finally { break; } } return "kept"; }
-- console.log(g());
-- function h() { try { return "a"; } finally { return "b"; } }
-- console.log(h());
finals : shows 220 (t.next (t.Fun (t.code (Some (codes "f")) k.Normal ((codes "x") ∷ []) (t.next (t.Try (t.next (t.If (t.Binary o.Same (t.Named (codes "x")) (t.Num 0)) (t.Block (t.next (t.Return (t.some_expr (t.Text (codes "r")))) t.end)) t.no_stmt) (t.next (t.Throw (t.Text (codes "t"))) t.end)) (t.catch (Some (codes "e")) (t.next (t.Return (t.some_expr (t.Binary o.Add (t.Named (codes "e")) (t.Text (codes "c"))))) t.end)) (t.last (t.next (t.Value (t.Built f.Log (t.also (t.Text (codes "fin")) t.none))) t.end))) t.end))) (t.next (t.Value (t.Built f.Log (t.also (t.Call (t.Named (codes "f")) (t.also (t.Num 0) t.none)) (t.also (t.Call (t.Named (codes "f")) (t.also (t.Num 1) t.none)) t.none)))) (t.next (t.Fun (t.code (Some (codes "g")) k.Normal [] (t.next (t.While (t.Truth true) (t.Block (t.next (t.Try (t.next (t.Return (t.some_expr (t.Text (codes "lost")))) t.end) t.no_catch (t.last (t.next t.Break t.end))) t.end))) (t.next (t.Return (t.some_expr (t.Text (codes "kept")))) t.end)))) (t.next (t.Value (t.Built f.Log (t.also (t.Call (t.Named (codes "g")) t.none) t.none))) (t.next (t.Fun (t.code (Some (codes "h")) k.Normal [] (t.next (t.Try (t.next (t.Return (t.some_expr (t.Text (codes "a")))) t.end) t.no_catch (t.last (t.next (t.Return (t.some_expr (t.Text (codes "b")))) t.end))) t.end))) (t.next (t.Value (t.Built f.Log (t.also (t.Call (t.Named (codes "h")) t.none) t.none))) t.end))))))
    ≡ (Ended, Out (codes "fin") ∷ Out (codes "fin") ∷ Out (codes "r tc") ∷ Out (codes "kept") ∷ Out (codes "b") ∷ [])
finals = refl

-- function w(n) { let s = ""; switch (n) { case 1: s += "1"; case 2: s += "2"; break; default: s += "d"; case 3: { let k = "3"; s += k; } } return s; }
-- console.log(w(1), w(2), w(3), w(9));
switches : shows 300 (t.next (t.Fun (t.code (Some (codes "w")) k.Normal ((codes "n") ∷ []) (t.next (t.Let (t.let_item (codes "s") (t.some_expr (t.Text (codes ""))) t.no_lets)) (t.next (t.Switch (t.Named (codes "n")) (t.clause (Some 1) (t.next (t.Value (t.Change (codes "s") o.Add (t.Text (codes "1")))) t.end) (t.clause (Some 2) (t.next (t.Value (t.Change (codes "s") o.Add (t.Text (codes "2")))) (t.next t.Break t.end)) (t.clause None (t.next (t.Value (t.Change (codes "s") o.Add (t.Text (codes "d")))) t.end) (t.clause (Some 3) (t.next (t.Block (t.next (t.Let (t.let_item (codes "k") (t.some_expr (t.Text (codes "3"))) t.no_lets)) (t.next (t.Value (t.Change (codes "s") o.Add (t.Named (codes "k")))) t.end))) t.end) t.no_clauses))))) (t.next (t.Return (t.some_expr (t.Named (codes "s")))) t.end))))) (t.next (t.Value (t.Built f.Log (t.also (t.Call (t.Named (codes "w")) (t.also (t.Num 1) t.none)) (t.also (t.Call (t.Named (codes "w")) (t.also (t.Num 2) t.none)) (t.also (t.Call (t.Named (codes "w")) (t.also (t.Num 3) t.none)) (t.also (t.Call (t.Named (codes "w")) (t.also (t.Num 9) t.none)) t.none)))))) t.end))
    ≡ (Ended, Out (codes "12 2 3 d3") ∷ [])
switches = refl

-- const k = "b"; const o = { a: "x", [k]: "y", m() { return this.a; } };
-- o.c = "z"; o["d"] = o.a + o[k];
-- console.log(o.a, o.b, o.c, o.d, o.m(), o.nothing);
-- const m = o.m;
-- console.log(m.call(o), typeof m, typeof o, typeof null, typeof "", typeof undefined, typeof true);
objects : shows 160 (t.next (t.Const (t.const_item (codes "k") (t.Text (codes "b")) t.no_consts)) (t.next (t.Const (t.const_item (codes "o") (t.Object (t.property (t.Fixed (codes "a")) (t.Text (codes "x")) (t.property (t.Computed (t.Named (codes "k"))) (t.Text (codes "y")) (t.property (t.Fixed (codes "m")) (t.Function (t.code None k.Normal [] (t.next (t.Return (t.some_expr (t.Member t.This (t.Dot (codes "a"))))) t.end))) t.no_properties)))) t.no_consts)) (t.next (t.Value (t.SetMember (t.Named (codes "o")) (t.Dot (codes "c")) (t.Text (codes "z")))) (t.next (t.Value (t.SetMember (t.Named (codes "o")) (t.Index (t.Text (codes "d"))) (t.Binary o.Add (t.Member (t.Named (codes "o")) (t.Dot (codes "a"))) (t.Member (t.Named (codes "o")) (t.Index (t.Named (codes "k"))))))) (t.next (t.Value (t.Built f.Log (t.also (t.Member (t.Named (codes "o")) (t.Dot (codes "a"))) (t.also (t.Member (t.Named (codes "o")) (t.Dot (codes "b"))) (t.also (t.Member (t.Named (codes "o")) (t.Dot (codes "c"))) (t.also (t.Member (t.Named (codes "o")) (t.Dot (codes "d"))) (t.also (t.Call (t.Member (t.Named (codes "o")) (t.Dot (codes "m"))) t.none) (t.also (t.Member (t.Named (codes "o")) (t.Dot (codes "nothing"))) t.none)))))))) (t.next (t.Const (t.const_item (codes "m") (t.Member (t.Named (codes "o")) (t.Dot (codes "m"))) t.no_consts)) (t.next (t.Value (t.Built f.Log (t.also (t.Built f.CallWith (t.also (t.Named (codes "m")) (t.also (t.Named (codes "o")) t.none))) (t.also (t.Unary u.Typeof (t.Named (codes "m"))) (t.also (t.Unary u.Typeof (t.Named (codes "o"))) (t.also (t.Unary u.Typeof t.Null) (t.also (t.Unary u.Typeof (t.Text (codes ""))) (t.also (t.Unary u.Typeof t.Undefined) (t.also (t.Unary u.Typeof (t.Truth true)) t.none))))))))) t.end)))))))
    ≡ (Ended, Out (codes "x y z xy x undefined") ∷ Out (codes "x function object object string undefined boolean") ∷ [])
objects = refl

-- try { console.log(x); } catch (e) { console.log(e.name); }
-- let x = "1";
-- const c = "2";
-- try { c = "3"; } catch (e) { console.log(e.name, c); }
-- const own = function me() { try { me = 1; } catch (e) { return e.name; } return "none"; };
-- console.log(own(), hoisted());
-- function hoisted() { return "up"; }
zones : shows 160 (t.next (t.Try (t.next (t.Value (t.Built f.Log (t.also (t.Named (codes "x")) t.none))) t.end) (t.catch (Some (codes "e")) (t.next (t.Value (t.Built f.Log (t.also (t.Member (t.Named (codes "e")) (t.Dot (codes "name"))) t.none))) t.end)) t.no_last) (t.next (t.Let (t.let_item (codes "x") (t.some_expr (t.Text (codes "1"))) t.no_lets)) (t.next (t.Const (t.const_item (codes "c") (t.Text (codes "2")) t.no_consts)) (t.next (t.Try (t.next (t.Value (t.SetName (codes "c") (t.Text (codes "3")))) t.end) (t.catch (Some (codes "e")) (t.next (t.Value (t.Built f.Log (t.also (t.Member (t.Named (codes "e")) (t.Dot (codes "name"))) (t.also (t.Named (codes "c")) t.none)))) t.end)) t.no_last) (t.next (t.Const (t.const_item (codes "own") (t.Function (t.code (Some (codes "me")) k.Normal [] (t.next (t.Try (t.next (t.Value (t.SetName (codes "me") (t.Num 1))) t.end) (t.catch (Some (codes "e")) (t.next (t.Return (t.some_expr (t.Member (t.Named (codes "e")) (t.Dot (codes "name"))))) t.end)) t.no_last) (t.next (t.Return (t.some_expr (t.Text (codes "none")))) t.end)))) t.no_consts)) (t.next (t.Value (t.Built f.Log (t.also (t.Call (t.Named (codes "own")) t.none) (t.also (t.Call (t.Named (codes "hoisted")) t.none) t.none)))) (t.next (t.Fun (t.code (Some (codes "hoisted")) k.Normal [] (t.next (t.Return (t.some_expr (t.Text (codes "up")))) t.end))) t.end)))))))
    ≡ (Ended, Out (codes "ReferenceError") ∷ Out (codes "TypeError 2") ∷ Out (codes "TypeError up") ∷ [])
zones = refl

-- try { undefined.x(console.log("not")); } catch (e) { console.log(e.name); }
-- const o = {};
-- try { o.f(console.log("args")); } catch (e) { console.log(e.name); }
-- try { null.x = console.log("right"); } catch (e) { console.log(e.name); }
-- function two(a, b) { return a + (b === undefined ? "-" : b); }
-- console.log(two("a"), two("a", "b", console.log("extra")));
calls : shows 160 (t.next (t.Try (t.next (t.Value (t.Call (t.Member t.Undefined (t.Dot (codes "x"))) (t.also (t.Built f.Log (t.also (t.Text (codes "not")) t.none)) t.none))) t.end) (t.catch (Some (codes "e")) (t.next (t.Value (t.Built f.Log (t.also (t.Member (t.Named (codes "e")) (t.Dot (codes "name"))) t.none))) t.end)) t.no_last) (t.next (t.Const (t.const_item (codes "o") (t.Object t.no_properties) t.no_consts)) (t.next (t.Try (t.next (t.Value (t.Call (t.Member (t.Named (codes "o")) (t.Dot (codes "f"))) (t.also (t.Built f.Log (t.also (t.Text (codes "args")) t.none)) t.none))) t.end) (t.catch (Some (codes "e")) (t.next (t.Value (t.Built f.Log (t.also (t.Member (t.Named (codes "e")) (t.Dot (codes "name"))) t.none))) t.end)) t.no_last) (t.next (t.Try (t.next (t.Value (t.SetMember t.Null (t.Dot (codes "x")) (t.Built f.Log (t.also (t.Text (codes "right")) t.none)))) t.end) (t.catch (Some (codes "e")) (t.next (t.Value (t.Built f.Log (t.also (t.Member (t.Named (codes "e")) (t.Dot (codes "name"))) t.none))) t.end)) t.no_last) (t.next (t.Fun (t.code (Some (codes "two")) k.Normal ((codes "a") ∷ ((codes "b") ∷ [])) (t.next (t.Return (t.some_expr (t.Binary o.Add (t.Named (codes "a")) (t.Choice (t.Binary o.Same (t.Named (codes "b")) t.Undefined) (t.Text (codes "-")) (t.Named (codes "b")))))) t.end))) (t.next (t.Value (t.Built f.Log (t.also (t.Call (t.Named (codes "two")) (t.also (t.Text (codes "a")) t.none)) (t.also (t.Call (t.Named (codes "two")) (t.also (t.Text (codes "a")) (t.also (t.Text (codes "b")) (t.also (t.Built f.Log (t.also (t.Text (codes "extra")) t.none)) t.none)))) t.none)))) t.end))))))
    ≡ (Ended, Out (codes "TypeError") ∷ Out (codes "args") ∷ Out (codes "TypeError") ∷ Out (codes "right") ∷ Out (codes "TypeError") ∷ Out (codes "extra") ∷ Out (codes "a- ab") ∷ [])
calls = refl

-- const e = new RangeError("far"); const f = new Error(); const g = new TypeError(undefined);
-- console.log(e.name, e.message, f.message === "", g.name, new ReferenceError(true).message, e.then);
-- try { try { throw e; } finally { console.log("through"); } } catch (x) { console.log(x === e); }
errors : shows 130 (t.next (t.Const (t.const_item (codes "e") (t.Built (f.NewError n.RangeError) (t.also (t.Text (codes "far")) t.none)) t.no_consts)) (t.next (t.Const (t.const_item (codes "f") (t.Built (f.NewError n.Error) t.none) t.no_consts)) (t.next (t.Const (t.const_item (codes "g") (t.Built (f.NewError n.TypeError) (t.also t.Undefined t.none)) t.no_consts)) (t.next (t.Value (t.Built f.Log (t.also (t.Member (t.Named (codes "e")) (t.Dot (codes "name"))) (t.also (t.Member (t.Named (codes "e")) (t.Dot (codes "message"))) (t.also (t.Binary o.Same (t.Member (t.Named (codes "f")) (t.Dot (codes "message"))) (t.Text (codes ""))) (t.also (t.Member (t.Named (codes "g")) (t.Dot (codes "name"))) (t.also (t.Member (t.Built (f.NewError n.ReferenceError) (t.also (t.Truth true) t.none)) (t.Dot (codes "message"))) (t.also (t.Member (t.Named (codes "e")) (t.Dot (codes "then"))) t.none)))))))) (t.next (t.Try (t.next (t.Try (t.next (t.Throw (t.Named (codes "e"))) t.end) t.no_catch (t.last (t.next (t.Value (t.Built f.Log (t.also (t.Text (codes "through")) t.none))) t.end))) t.end) (t.catch (Some (codes "x")) (t.next (t.Value (t.Built f.Log (t.also (t.Binary o.Same (t.Named (codes "x")) (t.Named (codes "e"))) t.none))) t.end)) t.no_last) t.end)))))
    ≡ (Ended, Out (codes "RangeError far true TypeError true undefined") ∷ Out (codes "through") ∷ Out (codes "true") ∷ [])
errors = refl

-- console.log(null ?? "n", "" ?? "e", "" || "o", "a" && "b", "" && "never", !"" , void "v", "a" < "b", "b" <= "a", "ab" > "a", "ab" >= "ac", "a" !== "a");
-- let a = 5; const b = a++; const c = --a; console.log(b === 5, c === 5, a === 5, -a < 0, a * 2 === 10, a - 7 < -1);
logic : shows 150 (t.next (t.Value (t.Built f.Log (t.also (t.Logic l.Coalesce t.Null (t.Text (codes "n"))) (t.also (t.Logic l.Coalesce (t.Text (codes "")) (t.Text (codes "e"))) (t.also (t.Logic l.Or (t.Text (codes "")) (t.Text (codes "o"))) (t.also (t.Logic l.And (t.Text (codes "a")) (t.Text (codes "b"))) (t.also (t.Logic l.And (t.Text (codes "")) (t.Text (codes "never"))) (t.also (t.Unary u.Not (t.Text (codes ""))) (t.also (t.Unary u.Void (t.Text (codes "v"))) (t.also (t.Binary o.Less (t.Text (codes "a")) (t.Text (codes "b"))) (t.also (t.Binary o.LessSame (t.Text (codes "b")) (t.Text (codes "a"))) (t.also (t.Binary o.More (t.Text (codes "ab")) (t.Text (codes "a"))) (t.also (t.Binary o.MoreSame (t.Text (codes "ab")) (t.Text (codes "ac"))) (t.also (t.Binary o.NotSame (t.Text (codes "a")) (t.Text (codes "a"))) t.none)))))))))))))) (t.next (t.Let (t.let_item (codes "a") (t.some_expr (t.Num 5)) t.no_lets)) (t.next (t.Const (t.const_item (codes "b") (t.Bump (codes "a") true false) t.no_consts)) (t.next (t.Const (t.const_item (codes "c") (t.Bump (codes "a") false true) t.no_consts)) (t.next (t.Value (t.Built f.Log (t.also (t.Binary o.Same (t.Named (codes "b")) (t.Num 5)) (t.also (t.Binary o.Same (t.Named (codes "c")) (t.Num 5)) (t.also (t.Binary o.Same (t.Named (codes "a")) (t.Num 5)) (t.also (t.Binary o.Less (t.Unary u.Minus (t.Named (codes "a"))) (t.Num 0)) (t.also (t.Binary o.Same (t.Binary o.Mul (t.Named (codes "a")) (t.Num 2)) (t.Num 10)) (t.also (t.Binary o.Less (t.Binary o.Sub (t.Named (codes "a")) (t.Num 7)) (t.Unary u.Minus (t.Num 1))) t.none)))))))) t.end)))))
    ≡ (Ended, Out (codes "n  o b  true undefined true false true false false") ∷ Out (codes "true true true true true true") ∷ [])
logic = refl

-- queueMicrotask(() => { console.log("one"); queueMicrotask(() => console.log("three")); });
-- queueMicrotask(() => console.log("two"));
-- console.log("zero");
jobs : shows 150 (t.next (t.Value (t.Built f.QueueMicrotask (t.also (t.Function (t.code None k.Arrow [] (t.next (t.Value (t.Built f.Log (t.also (t.Text (codes "one")) t.none))) (t.next (t.Value (t.Built f.QueueMicrotask (t.also (t.Function (t.code None k.Arrow [] (one (t.Return (t.some_expr (t.Built f.Log (t.also (t.Text (codes "three")) t.none))))))) t.none))) t.end)))) t.none))) (t.next (t.Value (t.Built f.QueueMicrotask (t.also (t.Function (t.code None k.Arrow [] (one (t.Return (t.some_expr (t.Built f.Log (t.also (t.Text (codes "two")) t.none))))))) t.none))) (t.next (t.Value (t.Built f.Log (t.also (t.Text (codes "zero")) t.none))) t.end)))
    ≡ (Ended, Out (codes "zero") ∷ Start ∷ Out (codes "one") ∷ Start ∷ Out (codes "two") ∷ Start ∷ Out (codes "three") ∷ [])
jobs = refl

-- const w = new WeakMap(); const k = {}; const j = {};
-- console.log(w.set(k, "v") === w, w.get(k), w.get(j), w.get("k"));
-- try { w.set("k", "v"); } catch (e) { console.log(e.name); }
-- const get = w.get; try { get(k); } catch (e) { console.log(e.name); }
weak : shows 120 (t.next (t.Const (t.const_item (codes "w") (t.Built f.NewWeakMap t.none) t.no_consts)) (t.next (t.Const (t.const_item (codes "k") (t.Object t.no_properties) t.no_consts)) (t.next (t.Const (t.const_item (codes "j") (t.Object t.no_properties) t.no_consts)) (t.next (t.Value (t.Built f.Log (t.also (t.Binary o.Same (t.Call (t.Member (t.Named (codes "w")) (t.Dot (codes "set"))) (t.also (t.Named (codes "k")) (t.also (t.Text (codes "v")) t.none))) (t.Named (codes "w"))) (t.also (t.Call (t.Member (t.Named (codes "w")) (t.Dot (codes "get"))) (t.also (t.Named (codes "k")) t.none)) (t.also (t.Call (t.Member (t.Named (codes "w")) (t.Dot (codes "get"))) (t.also (t.Named (codes "j")) t.none)) (t.also (t.Call (t.Member (t.Named (codes "w")) (t.Dot (codes "get"))) (t.also (t.Text (codes "k")) t.none)) t.none)))))) (t.next (t.Try (t.next (t.Value (t.Call (t.Member (t.Named (codes "w")) (t.Dot (codes "set"))) (t.also (t.Text (codes "k")) (t.also (t.Text (codes "v")) t.none)))) t.end) (t.catch (Some (codes "e")) (t.next (t.Value (t.Built f.Log (t.also (t.Member (t.Named (codes "e")) (t.Dot (codes "name"))) t.none))) t.end)) t.no_last) (t.next (t.Const (t.const_item (codes "get") (t.Member (t.Named (codes "w")) (t.Dot (codes "get"))) t.no_consts)) (t.next (t.Try (t.next (t.Value (t.Call (t.Named (codes "get")) (t.also (t.Named (codes "k")) t.none))) t.end) (t.catch (Some (codes "e")) (t.next (t.Value (t.Built f.Log (t.also (t.Member (t.Named (codes "e")) (t.Dot (codes "name"))) t.none))) t.end)) t.no_last) t.end)))))))
    ≡ (Ended, Out (codes "true v undefined undefined") ∷ Out (codes "TypeError") ∷ Out (codes "TypeError") ∷ [])
weak = refl

-- const s = "abc"; console.log(s.length === 3, s["0"], s["2"], s["3"], s + true + null + undefined);
-- const fr = Object.freeze({ a: "x" }); console.log(fr.a, fr.then);
texts : shows 110 (t.next (t.Const (t.const_item (codes "s") (t.Text (codes "abc")) t.no_consts)) (t.next (t.Value (t.Built f.Log (t.also (t.Binary o.Same (t.Member (t.Named (codes "s")) (t.Dot (codes "length"))) (t.Num 3)) (t.also (t.Member (t.Named (codes "s")) (t.Index (t.Text (codes "0")))) (t.also (t.Member (t.Named (codes "s")) (t.Index (t.Text (codes "2")))) (t.also (t.Member (t.Named (codes "s")) (t.Index (t.Text (codes "3")))) (t.also (t.Binary o.Add (t.Binary o.Add (t.Binary o.Add (t.Named (codes "s")) (t.Truth true)) t.Null) t.Undefined) t.none))))))) (t.next (t.Const (t.const_item (codes "fr") (t.Built f.Freeze (t.also (t.Object (t.property (t.Fixed (codes "a")) (t.Text (codes "x")) t.no_properties)) t.none)) t.no_consts)) (t.next (t.Value (t.Built f.Log (t.also (t.Member (t.Named (codes "fr")) (t.Dot (codes "a"))) (t.also (t.Member (t.Named (codes "fr")) (t.Dot (codes "then"))) t.none)))) t.end))))
    ≡ (Ended, Out (codes "true a c undefined abctruenullundefined") ∷ Out (codes "x undefined") ∷ [])
texts = refl

-- let fs = "";
-- for (const z = "q"; fs.length < 2; fs += z) { if (fs === "") { continue; } }
-- for (let i = 0, j = 2; i < j; i++) { const g = () => i === j; fs += g() ? "t" : "f"; j--; }
-- let n = 0; for (;;) { n++; if (n === 3) break; } for (n = 0; n < 2; ) n++;
-- console.log(fs, n === 2);
fors : shows 260 (t.next (t.Let (t.let_item (codes "fs") (t.some_expr (t.Text (codes ""))) t.no_lets)) (t.next (t.For (t.init_const (t.const_item (codes "z") (t.Text (codes "q")) t.no_consts)) (t.some_expr (t.Binary o.Less (t.Member (t.Named (codes "fs")) (t.Dot (codes "length"))) (t.Num 2))) (t.some_expr (t.Change (codes "fs") o.Add (t.Named (codes "z")))) (t.Block (t.next (t.If (t.Binary o.Same (t.Named (codes "fs")) (t.Text (codes ""))) (t.Block (t.next t.Continue t.end)) t.no_stmt) t.end))) (t.next (t.For (t.init_let (t.let_item (codes "i") (t.some_expr (t.Num 0)) (t.let_item (codes "j") (t.some_expr (t.Num 2)) t.no_lets))) (t.some_expr (t.Binary o.Less (t.Named (codes "i")) (t.Named (codes "j")))) (t.some_expr (t.Bump (codes "i") true false)) (t.Block (t.next (t.Const (t.const_item (codes "g") (t.Function (t.code None k.Arrow [] (one (t.Return (t.some_expr (t.Binary o.Same (t.Named (codes "i")) (t.Named (codes "j")))))))) t.no_consts)) (t.next (t.Value (t.Change (codes "fs") o.Add (t.Choice (t.Call (t.Named (codes "g")) t.none) (t.Text (codes "t")) (t.Text (codes "f"))))) (t.next (t.Value (t.Bump (codes "j") false false)) t.end))))) (t.next (t.Let (t.let_item (codes "n") (t.some_expr (t.Num 0)) t.no_lets)) (t.next (t.For t.init_nothing t.no_expr t.no_expr (t.Block (t.next (t.Value (t.Bump (codes "n") true false)) (t.next (t.If (t.Binary o.Same (t.Named (codes "n")) (t.Num 3)) t.Break t.no_stmt) t.end)))) (t.next (t.For (t.init_value (t.SetName (codes "n") (t.Num 0))) (t.some_expr (t.Binary o.Less (t.Named (codes "n")) (t.Num 2))) t.no_expr (t.Value (t.Bump (codes "n") true false))) (t.next (t.Value (t.Built f.Log (t.also (t.Named (codes "fs")) (t.also (t.Binary o.Same (t.Named (codes "n")) (t.Num 2)) t.none)))) t.end)))))))
    ≡ (Ended, Out (codes "qqf true") ∷ [])
fors = refl

-- console.log("a"); const o = {}; o.__proto__ = 1; console.log("b");
misuse : shows 60 (t.next (t.Value (t.Built f.Log (t.also (t.Text (codes "a")) t.none))) (t.next (t.Const (t.const_item (codes "o") (t.Object t.no_properties) t.no_consts)) (t.next (t.Value (t.SetMember (t.Named (codes "o")) (t.Dot (codes "__proto__")) (t.Num 1))) (t.next (t.Value (t.Built f.Log (t.also (t.Text (codes "b")) t.none))) t.end))))
    ≡ (Left, Out (codes "a") ∷ [])
misuse = refl

-- console.log("a"); -"x"; console.log("b");
misuse2 : shows 60 (t.next (t.Value (t.Built f.Log (t.also (t.Text (codes "a")) t.none))) (t.next (t.Value (t.Unary u.Minus (t.Text (codes "x")))) (t.next (t.Value (t.Built f.Log (t.also (t.Text (codes "b")) t.none))) t.end)))
    ≡ (Left, Out (codes "a") ∷ [])
misuse2 = refl

-- console.log("a"); const f = Object.freeze({}); f.x = 1; console.log("b");
misuse3 : shows 60 (t.next (t.Value (t.Built f.Log (t.also (t.Text (codes "a")) t.none))) (t.next (t.Const (t.const_item (codes "f") (t.Built f.Freeze (t.also (t.Object t.no_properties) t.none)) t.no_consts)) (t.next (t.Value (t.SetMember (t.Named (codes "f")) (t.Dot (codes "x")) (t.Num 1))) (t.next (t.Value (t.Built f.Log (t.also (t.Text (codes "b")) t.none))) t.end))))
    ≡ (Left, Out (codes "a") ∷ [])
misuse3 = refl

-- console.log("a"); ({}).toString; console.log("b");
misuse4 : shows 60 (t.next (t.Value (t.Built f.Log (t.also (t.Text (codes "a")) t.none))) (t.next (t.Value (t.Member (t.Object t.no_properties) (t.Dot (codes "toString")))) (t.next (t.Value (t.Built f.Log (t.also (t.Text (codes "b")) t.none))) t.end)))
    ≡ (Left, Out (codes "a") ∷ [])
misuse4 = refl

-- let a = null; let b = null;
-- for (let i = ""; i !== "xx"; i += "x") { const h = () => i; if (i === "") { a = h; continue; } b = h; }
-- console.log(a() === "", b());
copies : shows 200 (t.next (t.Let (t.let_item (codes "a") (t.some_expr t.Null) t.no_lets)) (t.next (t.Let (t.let_item (codes "b") (t.some_expr t.Null) t.no_lets)) (t.next (t.For (t.init_let (t.let_item (codes "i") (t.some_expr (t.Text (codes ""))) t.no_lets)) (t.some_expr (t.Binary o.NotSame (t.Named (codes "i")) (t.Text (codes "xx")))) (t.some_expr (t.Change (codes "i") o.Add (t.Text (codes "x")))) (t.Block (t.next (t.Const (t.const_item (codes "h") (t.Function (t.code None k.Arrow [] (one (t.Return (t.some_expr (t.Named (codes "i"))))))) t.no_consts)) (t.next (t.If (t.Binary o.Same (t.Named (codes "i")) (t.Text (codes ""))) (t.Block (t.next (t.Value (t.SetName (codes "a") (t.Named (codes "h")))) (t.next t.Continue t.end))) t.no_stmt) (t.next (t.Value (t.SetName (codes "b") (t.Named (codes "h")))) t.end))))) (t.next (t.Value (t.Built f.Log (t.also (t.Binary o.Same (t.Call (t.Named (codes "a")) t.none) (t.Text (codes ""))) (t.also (t.Call (t.Named (codes "b")) t.none) t.none)))) t.end))))
    ≡ (Ended, Out (codes "true x") ∷ [])
copies = refl

-- try { try { throw "t"; } finally { null.x; } } catch (e) { console.log(e.name, typeof e); }
replaced : shows 80 (t.next (t.Try (t.next (t.Try (t.next (t.Throw (t.Text (codes "t"))) t.end) t.no_catch (t.last (t.next (t.Value (t.Member t.Null (t.Dot (codes "x")))) t.end))) t.end) (t.catch (Some (codes "e")) (t.next (t.Value (t.Built f.Log (t.also (t.Member (t.Named (codes "e")) (t.Dot (codes "name"))) (t.also (t.Unary u.Typeof (t.Named (codes "e"))) t.none)))) t.end)) t.no_last) t.end)
    ≡ (Ended, Out (codes "TypeError object") ∷ [])
replaced = refl
