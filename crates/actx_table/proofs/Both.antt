-- Small programs with variables: their runs and those of their emitted programs.
use Rattle.std.proofs.Common.{◌≡◌, [], ◌∷◌, Some, None, true, false, refl}
use Rattle.std.specs.Prelude.{codes}
use Rattle.actx_data.specs.declared.end.End.TheVariants.{Ended, Left}
use Rattle.actx_data.specs.declared.shown.ErrorName.TheVariants as n
use Rattle.actx_grammar.specs.declared.operators.BinaryOp.TheVariants as o
use Rattle.actx_grammar.specs.declared.operators.UnaryOp.TheVariants as u
use Rattle.actx_grammar.specs.declared.operators.Form.TheVariants as f
use Rattle.actx_grammar.specs.declared.operators.FunctionKind.TheVariants as k
use Rattle.actx_grammar.specs.declared.side.Side.TheVariants.{Source, Plain}
use Rattle.actx_grammar.specs.Tree as t
use Rattle.actx_table.specs.Low.{low}
use Rattle.actx_table.proofs.Drive.{shows_on, one}

-- const v = new AsyncContext.Variable({ defaultValue: "d", name: "n" });
-- console.log(v.get(), v.name);
-- v.run("a", () => { console.log(v.get()); v.run("b", x => console.log(v.get(), x), "arg"); console.log(v.get()); });
-- console.log(v.get());
nested : shows_on Source 200 (t.next (t.Const (t.const_item (codes "v") (t.Built f.NewVariable (t.also (t.Object (t.property (t.Fixed (codes "defaultValue")) (t.Text (codes "d")) (t.property (t.Fixed (codes "name")) (t.Text (codes "n")) t.no_properties))) t.none)) t.no_consts)) (t.next (t.Value (t.Built f.Log (t.also (t.Call (t.Member (t.Named (codes "v")) (t.Dot (codes "get"))) t.none) (t.also (t.Member (t.Named (codes "v")) (t.Dot (codes "name"))) t.none)))) (t.next (t.Value (t.Call (t.Member (t.Named (codes "v")) (t.Dot (codes "run"))) (t.also (t.Text (codes "a")) (t.also (t.Function (t.code None k.Arrow [] (t.next (t.Value (t.Built f.Log (t.also (t.Call (t.Member (t.Named (codes "v")) (t.Dot (codes "get"))) t.none) t.none))) (t.next (t.Value (t.Call (t.Member (t.Named (codes "v")) (t.Dot (codes "run"))) (t.also (t.Text (codes "b")) (t.also (t.Function (t.code None k.Arrow ((codes "x") ∷ []) (one (t.Return (t.some_expr (t.Built f.Log (t.also (t.Call (t.Member (t.Named (codes "v")) (t.Dot (codes "get"))) t.none) (t.also (t.Named (codes "x")) t.none)))))))) (t.also (t.Text (codes "arg")) t.none))))) (t.next (t.Value (t.Built f.Log (t.also (t.Call (t.Member (t.Named (codes "v")) (t.Dot (codes "get"))) t.none) t.none))) t.end))))) t.none)))) (t.next (t.Value (t.Built f.Log (t.also (t.Call (t.Member (t.Named (codes "v")) (t.Dot (codes "get"))) t.none) t.none))) t.end)))) ≡ shows_on Plain 900 (low (t.next (t.Const (t.const_item (codes "v") (t.Built f.NewVariable (t.also (t.Object (t.property (t.Fixed (codes "defaultValue")) (t.Text (codes "d")) (t.property (t.Fixed (codes "name")) (t.Text (codes "n")) t.no_properties))) t.none)) t.no_consts)) (t.next (t.Value (t.Built f.Log (t.also (t.Call (t.Member (t.Named (codes "v")) (t.Dot (codes "get"))) t.none) (t.also (t.Member (t.Named (codes "v")) (t.Dot (codes "name"))) t.none)))) (t.next (t.Value (t.Call (t.Member (t.Named (codes "v")) (t.Dot (codes "run"))) (t.also (t.Text (codes "a")) (t.also (t.Function (t.code None k.Arrow [] (t.next (t.Value (t.Built f.Log (t.also (t.Call (t.Member (t.Named (codes "v")) (t.Dot (codes "get"))) t.none) t.none))) (t.next (t.Value (t.Call (t.Member (t.Named (codes "v")) (t.Dot (codes "run"))) (t.also (t.Text (codes "b")) (t.also (t.Function (t.code None k.Arrow ((codes "x") ∷ []) (one (t.Return (t.some_expr (t.Built f.Log (t.also (t.Call (t.Member (t.Named (codes "v")) (t.Dot (codes "get"))) t.none) (t.also (t.Named (codes "x")) t.none)))))))) (t.also (t.Text (codes "arg")) t.none))))) (t.next (t.Value (t.Built f.Log (t.also (t.Call (t.Member (t.Named (codes "v")) (t.Dot (codes "get"))) t.none) t.none))) t.end))))) t.none)))) (t.next (t.Value (t.Built f.Log (t.also (t.Call (t.Member (t.Named (codes "v")) (t.Dot (codes "get"))) t.none) t.none))) t.end)))))
nested = refl

nested-ends : (shows_on Source 200 (t.next (t.Const (t.const_item (codes "v") (t.Built f.NewVariable (t.also (t.Object (t.property (t.Fixed (codes "defaultValue")) (t.Text (codes "d")) (t.property (t.Fixed (codes "name")) (t.Text (codes "n")) t.no_properties))) t.none)) t.no_consts)) (t.next (t.Value (t.Built f.Log (t.also (t.Call (t.Member (t.Named (codes "v")) (t.Dot (codes "get"))) t.none) (t.also (t.Member (t.Named (codes "v")) (t.Dot (codes "name"))) t.none)))) (t.next (t.Value (t.Call (t.Member (t.Named (codes "v")) (t.Dot (codes "run"))) (t.also (t.Text (codes "a")) (t.also (t.Function (t.code None k.Arrow [] (t.next (t.Value (t.Built f.Log (t.also (t.Call (t.Member (t.Named (codes "v")) (t.Dot (codes "get"))) t.none) t.none))) (t.next (t.Value (t.Call (t.Member (t.Named (codes "v")) (t.Dot (codes "run"))) (t.also (t.Text (codes "b")) (t.also (t.Function (t.code None k.Arrow ((codes "x") ∷ []) (one (t.Return (t.some_expr (t.Built f.Log (t.also (t.Call (t.Member (t.Named (codes "v")) (t.Dot (codes "get"))) t.none) (t.also (t.Named (codes "x")) t.none)))))))) (t.also (t.Text (codes "arg")) t.none))))) (t.next (t.Value (t.Built f.Log (t.also (t.Call (t.Member (t.Named (codes "v")) (t.Dot (codes "get"))) t.none) t.none))) t.end))))) t.none)))) (t.next (t.Value (t.Built f.Log (t.also (t.Call (t.Member (t.Named (codes "v")) (t.Dot (codes "get"))) t.none) t.none))) t.end))))).0 ≡ Ended
nested-ends = refl

-- const v = new AsyncContext.Variable({ defaultValue: "d" });
-- try { v.run("x", () => { throw "t"; }); } catch (e) { console.log(e, v.get()); }
-- try { v.run("x"); } catch (e) { console.log(e.name, v.get()); }
-- const g = v.get; try { g(); } catch (e) { console.log(e.name); }
-- const o = { call: "c", get: v.get }; try { o.get(); } catch (e) { console.log(e.name, o.call); }
throws : shows_on Source 200 (t.next (t.Const (t.const_item (codes "v") (t.Built f.NewVariable (t.also (t.Object (t.property (t.Fixed (codes "defaultValue")) (t.Text (codes "d")) t.no_properties)) t.none)) t.no_consts)) (t.next (t.Try (t.next (t.Value (t.Call (t.Member (t.Named (codes "v")) (t.Dot (codes "run"))) (t.also (t.Text (codes "x")) (t.also (t.Function (t.code None k.Arrow [] (t.next (t.Throw (t.Text (codes "t"))) t.end))) t.none)))) t.end) (t.catch (Some (codes "e")) (t.next (t.Value (t.Built f.Log (t.also (t.Named (codes "e")) (t.also (t.Call (t.Member (t.Named (codes "v")) (t.Dot (codes "get"))) t.none) t.none)))) t.end)) t.no_last) (t.next (t.Try (t.next (t.Value (t.Call (t.Member (t.Named (codes "v")) (t.Dot (codes "run"))) (t.also (t.Text (codes "x")) t.none))) t.end) (t.catch (Some (codes "e")) (t.next (t.Value (t.Built f.Log (t.also (t.Member (t.Named (codes "e")) (t.Dot (codes "name"))) (t.also (t.Call (t.Member (t.Named (codes "v")) (t.Dot (codes "get"))) t.none) t.none)))) t.end)) t.no_last) (t.next (t.Const (t.const_item (codes "g") (t.Member (t.Named (codes "v")) (t.Dot (codes "get"))) t.no_consts)) (t.next (t.Try (t.next (t.Value (t.Call (t.Named (codes "g")) t.none)) t.end) (t.catch (Some (codes "e")) (t.next (t.Value (t.Built f.Log (t.also (t.Member (t.Named (codes "e")) (t.Dot (codes "name"))) t.none))) t.end)) t.no_last) (t.next (t.Const (t.const_item (codes "o") (t.Object (t.property (t.Fixed (codes "call")) (t.Text (codes "c")) (t.property (t.Fixed (codes "get")) (t.Member (t.Named (codes "v")) (t.Dot (codes "get"))) t.no_properties))) t.no_consts)) (t.next (t.Try (t.next (t.Value (t.Call (t.Member (t.Named (codes "o")) (t.Dot (codes "get"))) t.none)) t.end) (t.catch (Some (codes "e")) (t.next (t.Value (t.Built f.Log (t.also (t.Member (t.Named (codes "e")) (t.Dot (codes "name"))) (t.also (t.Member (t.Named (codes "o")) (t.Dot (codes "call"))) t.none)))) t.end)) t.no_last) t.end))))))) ≡ shows_on Plain 900 (low (t.next (t.Const (t.const_item (codes "v") (t.Built f.NewVariable (t.also (t.Object (t.property (t.Fixed (codes "defaultValue")) (t.Text (codes "d")) t.no_properties)) t.none)) t.no_consts)) (t.next (t.Try (t.next (t.Value (t.Call (t.Member (t.Named (codes "v")) (t.Dot (codes "run"))) (t.also (t.Text (codes "x")) (t.also (t.Function (t.code None k.Arrow [] (t.next (t.Throw (t.Text (codes "t"))) t.end))) t.none)))) t.end) (t.catch (Some (codes "e")) (t.next (t.Value (t.Built f.Log (t.also (t.Named (codes "e")) (t.also (t.Call (t.Member (t.Named (codes "v")) (t.Dot (codes "get"))) t.none) t.none)))) t.end)) t.no_last) (t.next (t.Try (t.next (t.Value (t.Call (t.Member (t.Named (codes "v")) (t.Dot (codes "run"))) (t.also (t.Text (codes "x")) t.none))) t.end) (t.catch (Some (codes "e")) (t.next (t.Value (t.Built f.Log (t.also (t.Member (t.Named (codes "e")) (t.Dot (codes "name"))) (t.also (t.Call (t.Member (t.Named (codes "v")) (t.Dot (codes "get"))) t.none) t.none)))) t.end)) t.no_last) (t.next (t.Const (t.const_item (codes "g") (t.Member (t.Named (codes "v")) (t.Dot (codes "get"))) t.no_consts)) (t.next (t.Try (t.next (t.Value (t.Call (t.Named (codes "g")) t.none)) t.end) (t.catch (Some (codes "e")) (t.next (t.Value (t.Built f.Log (t.also (t.Member (t.Named (codes "e")) (t.Dot (codes "name"))) t.none))) t.end)) t.no_last) (t.next (t.Const (t.const_item (codes "o") (t.Object (t.property (t.Fixed (codes "call")) (t.Text (codes "c")) (t.property (t.Fixed (codes "get")) (t.Member (t.Named (codes "v")) (t.Dot (codes "get"))) t.no_properties))) t.no_consts)) (t.next (t.Try (t.next (t.Value (t.Call (t.Member (t.Named (codes "o")) (t.Dot (codes "get"))) t.none)) t.end) (t.catch (Some (codes "e")) (t.next (t.Value (t.Built f.Log (t.also (t.Member (t.Named (codes "e")) (t.Dot (codes "name"))) (t.also (t.Member (t.Named (codes "o")) (t.Dot (codes "call"))) t.none)))) t.end)) t.no_last) t.end))))))))
throws = refl

throws-ends : (shows_on Source 200 (t.next (t.Const (t.const_item (codes "v") (t.Built f.NewVariable (t.also (t.Object (t.property (t.Fixed (codes "defaultValue")) (t.Text (codes "d")) t.no_properties)) t.none)) t.no_consts)) (t.next (t.Try (t.next (t.Value (t.Call (t.Member (t.Named (codes "v")) (t.Dot (codes "run"))) (t.also (t.Text (codes "x")) (t.also (t.Function (t.code None k.Arrow [] (t.next (t.Throw (t.Text (codes "t"))) t.end))) t.none)))) t.end) (t.catch (Some (codes "e")) (t.next (t.Value (t.Built f.Log (t.also (t.Named (codes "e")) (t.also (t.Call (t.Member (t.Named (codes "v")) (t.Dot (codes "get"))) t.none) t.none)))) t.end)) t.no_last) (t.next (t.Try (t.next (t.Value (t.Call (t.Member (t.Named (codes "v")) (t.Dot (codes "run"))) (t.also (t.Text (codes "x")) t.none))) t.end) (t.catch (Some (codes "e")) (t.next (t.Value (t.Built f.Log (t.also (t.Member (t.Named (codes "e")) (t.Dot (codes "name"))) (t.also (t.Call (t.Member (t.Named (codes "v")) (t.Dot (codes "get"))) t.none) t.none)))) t.end)) t.no_last) (t.next (t.Const (t.const_item (codes "g") (t.Member (t.Named (codes "v")) (t.Dot (codes "get"))) t.no_consts)) (t.next (t.Try (t.next (t.Value (t.Call (t.Named (codes "g")) t.none)) t.end) (t.catch (Some (codes "e")) (t.next (t.Value (t.Built f.Log (t.also (t.Member (t.Named (codes "e")) (t.Dot (codes "name"))) t.none))) t.end)) t.no_last) (t.next (t.Const (t.const_item (codes "o") (t.Object (t.property (t.Fixed (codes "call")) (t.Text (codes "c")) (t.property (t.Fixed (codes "get")) (t.Member (t.Named (codes "v")) (t.Dot (codes "get"))) t.no_properties))) t.no_consts)) (t.next (t.Try (t.next (t.Value (t.Call (t.Member (t.Named (codes "o")) (t.Dot (codes "get"))) t.none)) t.end) (t.catch (Some (codes "e")) (t.next (t.Value (t.Built f.Log (t.also (t.Member (t.Named (codes "e")) (t.Dot (codes "name"))) (t.also (t.Member (t.Named (codes "o")) (t.Dot (codes "call"))) t.none)))) t.end)) t.no_last) t.end)))))))).0 ≡ Ended
throws-ends = refl

-- const a = new AsyncContext.Variable(); const b = new AsyncContext.Variable({ defaultValue: "bd" });
-- a.run("1", () => b.run("2", () => { a.run("3", () => console.log(a.get(), b.get())); console.log(a.get(), b.get()); }));
-- console.log(a.get(), b.get(), a.name === "", a === b, typeof a.run);
two : shows_on Source 260 (t.next (t.Const (t.const_item (codes "a") (t.Built f.NewVariable t.none) t.no_consts)) (t.next (t.Const (t.const_item (codes "b") (t.Built f.NewVariable (t.also (t.Object (t.property (t.Fixed (codes "defaultValue")) (t.Text (codes "bd")) t.no_properties)) t.none)) t.no_consts)) (t.next (t.Value (t.Call (t.Member (t.Named (codes "a")) (t.Dot (codes "run"))) (t.also (t.Text (codes "1")) (t.also (t.Function (t.code None k.Arrow [] (one (t.Return (t.some_expr (t.Call (t.Member (t.Named (codes "b")) (t.Dot (codes "run"))) (t.also (t.Text (codes "2")) (t.also (t.Function (t.code None k.Arrow [] (t.next (t.Value (t.Call (t.Member (t.Named (codes "a")) (t.Dot (codes "run"))) (t.also (t.Text (codes "3")) (t.also (t.Function (t.code None k.Arrow [] (one (t.Return (t.some_expr (t.Built f.Log (t.also (t.Call (t.Member (t.Named (codes "a")) (t.Dot (codes "get"))) t.none) (t.also (t.Call (t.Member (t.Named (codes "b")) (t.Dot (codes "get"))) t.none) t.none)))))))) t.none)))) (t.next (t.Value (t.Built f.Log (t.also (t.Call (t.Member (t.Named (codes "a")) (t.Dot (codes "get"))) t.none) (t.also (t.Call (t.Member (t.Named (codes "b")) (t.Dot (codes "get"))) t.none) t.none)))) t.end)))) t.none)))))))) t.none)))) (t.next (t.Value (t.Built f.Log (t.also (t.Call (t.Member (t.Named (codes "a")) (t.Dot (codes "get"))) t.none) (t.also (t.Call (t.Member (t.Named (codes "b")) (t.Dot (codes "get"))) t.none) (t.also (t.Binary o.Same (t.Member (t.Named (codes "a")) (t.Dot (codes "name"))) (t.Text (codes ""))) (t.also (t.Binary o.Same (t.Named (codes "a")) (t.Named (codes "b"))) (t.also (t.Unary u.Typeof (t.Member (t.Named (codes "a")) (t.Dot (codes "run")))) t.none))))))) t.end)))) ≡ shows_on Plain 1200 (low (t.next (t.Const (t.const_item (codes "a") (t.Built f.NewVariable t.none) t.no_consts)) (t.next (t.Const (t.const_item (codes "b") (t.Built f.NewVariable (t.also (t.Object (t.property (t.Fixed (codes "defaultValue")) (t.Text (codes "bd")) t.no_properties)) t.none)) t.no_consts)) (t.next (t.Value (t.Call (t.Member (t.Named (codes "a")) (t.Dot (codes "run"))) (t.also (t.Text (codes "1")) (t.also (t.Function (t.code None k.Arrow [] (one (t.Return (t.some_expr (t.Call (t.Member (t.Named (codes "b")) (t.Dot (codes "run"))) (t.also (t.Text (codes "2")) (t.also (t.Function (t.code None k.Arrow [] (t.next (t.Value (t.Call (t.Member (t.Named (codes "a")) (t.Dot (codes "run"))) (t.also (t.Text (codes "3")) (t.also (t.Function (t.code None k.Arrow [] (one (t.Return (t.some_expr (t.Built f.Log (t.also (t.Call (t.Member (t.Named (codes "a")) (t.Dot (codes "get"))) t.none) (t.also (t.Call (t.Member (t.Named (codes "b")) (t.Dot (codes "get"))) t.none) t.none)))))))) t.none)))) (t.next (t.Value (t.Built f.Log (t.also (t.Call (t.Member (t.Named (codes "a")) (t.Dot (codes "get"))) t.none) (t.also (t.Call (t.Member (t.Named (codes "b")) (t.Dot (codes "get"))) t.none) t.none)))) t.end)))) t.none)))))))) t.none)))) (t.next (t.Value (t.Built f.Log (t.also (t.Call (t.Member (t.Named (codes "a")) (t.Dot (codes "get"))) t.none) (t.also (t.Call (t.Member (t.Named (codes "b")) (t.Dot (codes "get"))) t.none) (t.also (t.Binary o.Same (t.Member (t.Named (codes "a")) (t.Dot (codes "name"))) (t.Text (codes ""))) (t.also (t.Binary o.Same (t.Named (codes "a")) (t.Named (codes "b"))) (t.also (t.Unary u.Typeof (t.Member (t.Named (codes "a")) (t.Dot (codes "run")))) t.none))))))) t.end)))))
two = refl

two-ends : (shows_on Source 260 (t.next (t.Const (t.const_item (codes "a") (t.Built f.NewVariable t.none) t.no_consts)) (t.next (t.Const (t.const_item (codes "b") (t.Built f.NewVariable (t.also (t.Object (t.property (t.Fixed (codes "defaultValue")) (t.Text (codes "bd")) t.no_properties)) t.none)) t.no_consts)) (t.next (t.Value (t.Call (t.Member (t.Named (codes "a")) (t.Dot (codes "run"))) (t.also (t.Text (codes "1")) (t.also (t.Function (t.code None k.Arrow [] (one (t.Return (t.some_expr (t.Call (t.Member (t.Named (codes "b")) (t.Dot (codes "run"))) (t.also (t.Text (codes "2")) (t.also (t.Function (t.code None k.Arrow [] (t.next (t.Value (t.Call (t.Member (t.Named (codes "a")) (t.Dot (codes "run"))) (t.also (t.Text (codes "3")) (t.also (t.Function (t.code None k.Arrow [] (one (t.Return (t.some_expr (t.Built f.Log (t.also (t.Call (t.Member (t.Named (codes "a")) (t.Dot (codes "get"))) t.none) (t.also (t.Call (t.Member (t.Named (codes "b")) (t.Dot (codes "get"))) t.none) t.none)))))))) t.none)))) (t.next (t.Value (t.Built f.Log (t.also (t.Call (t.Member (t.Named (codes "a")) (t.Dot (codes "get"))) t.none) (t.also (t.Call (t.Member (t.Named (codes "b")) (t.Dot (codes "get"))) t.none) t.none)))) t.end)))) t.none)))))))) t.none)))) (t.next (t.Value (t.Built f.Log (t.also (t.Call (t.Member (t.Named (codes "a")) (t.Dot (codes "get"))) t.none) (t.also (t.Call (t.Member (t.Named (codes "b")) (t.Dot (codes "get"))) t.none) (t.also (t.Binary o.Same (t.Member (t.Named (codes "a")) (t.Dot (codes "name"))) (t.Text (codes ""))) (t.also (t.Binary o.Same (t.Named (codes "a")) (t.Named (codes "b"))) (t.also (t.Unary u.Typeof (t.Member (t.Named (codes "a")) (t.Dot (codes "run")))) t.none))))))) t.end))))).0 ≡ Ended
two-ends = refl

-- const v = new AsyncContext.Variable({ name: "x" }); const w = new AsyncContext.Variable(v); console.log("no");
options1 : shows_on Source 60 (t.next (t.Const (t.const_item (codes "v") (t.Built f.NewVariable (t.also (t.Object (t.property (t.Fixed (codes "name")) (t.Text (codes "x")) t.no_properties)) t.none)) t.no_consts)) (t.next (t.Const (t.const_item (codes "w") (t.Built f.NewVariable (t.also (t.Named (codes "v")) t.none)) t.no_consts)) (t.next (t.Value (t.Built f.Log (t.also (t.Text (codes "no")) t.none))) t.end))) ≡ shows_on Plain 400 (low (t.next (t.Const (t.const_item (codes "v") (t.Built f.NewVariable (t.also (t.Object (t.property (t.Fixed (codes "name")) (t.Text (codes "x")) t.no_properties)) t.none)) t.no_consts)) (t.next (t.Const (t.const_item (codes "w") (t.Built f.NewVariable (t.also (t.Named (codes "v")) t.none)) t.no_consts)) (t.next (t.Value (t.Built f.Log (t.also (t.Text (codes "no")) t.none))) t.end))))
options1 = refl

options1-ends : (shows_on Source 60 (t.next (t.Const (t.const_item (codes "v") (t.Built f.NewVariable (t.also (t.Object (t.property (t.Fixed (codes "name")) (t.Text (codes "x")) t.no_properties)) t.none)) t.no_consts)) (t.next (t.Const (t.const_item (codes "w") (t.Built f.NewVariable (t.also (t.Named (codes "v")) t.none)) t.no_consts)) (t.next (t.Value (t.Built f.Log (t.also (t.Text (codes "no")) t.none))) t.end)))).0 ≡ Left
options1-ends = refl

-- const v = new AsyncContext.Variable({ name: null }); console.log("no");
options2 : shows_on Source 60 (t.next (t.Const (t.const_item (codes "v") (t.Built f.NewVariable (t.also (t.Object (t.property (t.Fixed (codes "name")) t.Null t.no_properties)) t.none)) t.no_consts)) (t.next (t.Value (t.Built f.Log (t.also (t.Text (codes "no")) t.none))) t.end)) ≡ shows_on Plain 400 (low (t.next (t.Const (t.const_item (codes "v") (t.Built f.NewVariable (t.also (t.Object (t.property (t.Fixed (codes "name")) t.Null t.no_properties)) t.none)) t.no_consts)) (t.next (t.Value (t.Built f.Log (t.also (t.Text (codes "no")) t.none))) t.end)))
options2 = refl

options2-ends : (shows_on Source 60 (t.next (t.Const (t.const_item (codes "v") (t.Built f.NewVariable (t.also (t.Object (t.property (t.Fixed (codes "name")) t.Null t.no_properties)) t.none)) t.no_consts)) (t.next (t.Value (t.Built f.Log (t.also (t.Text (codes "no")) t.none))) t.end))).0 ≡ Left
options2-ends = refl

-- const v = new AsyncContext.Variable(new Error("x")); console.log("no");
options3 : shows_on Source 60 (t.next (t.Const (t.const_item (codes "v") (t.Built f.NewVariable (t.also (t.Built (f.NewError n.Error) (t.also (t.Text (codes "x")) t.none)) t.none)) t.no_consts)) (t.next (t.Value (t.Built f.Log (t.also (t.Text (codes "no")) t.none))) t.end)) ≡ shows_on Plain 400 (low (t.next (t.Const (t.const_item (codes "v") (t.Built f.NewVariable (t.also (t.Built (f.NewError n.Error) (t.also (t.Text (codes "x")) t.none)) t.none)) t.no_consts)) (t.next (t.Value (t.Built f.Log (t.also (t.Text (codes "no")) t.none))) t.end)))
options3 = refl

options3-ends : (shows_on Source 60 (t.next (t.Const (t.const_item (codes "v") (t.Built f.NewVariable (t.also (t.Built (f.NewError n.Error) (t.also (t.Text (codes "x")) t.none)) t.none)) t.no_consts)) (t.next (t.Value (t.Built f.Log (t.also (t.Text (codes "no")) t.none))) t.end))).0 ≡ Left
options3-ends = refl

-- const v = new AsyncContext.Variable(null); console.log("no");
options4 : shows_on Source 60 (t.next (t.Const (t.const_item (codes "v") (t.Built f.NewVariable (t.also t.Null t.none)) t.no_consts)) (t.next (t.Value (t.Built f.Log (t.also (t.Text (codes "no")) t.none))) t.end)) ≡ shows_on Plain 400 (low (t.next (t.Const (t.const_item (codes "v") (t.Built f.NewVariable (t.also t.Null t.none)) t.no_consts)) (t.next (t.Value (t.Built f.Log (t.also (t.Text (codes "no")) t.none))) t.end)))
options4 = refl

options4-ends : (shows_on Source 60 (t.next (t.Const (t.const_item (codes "v") (t.Built f.NewVariable (t.also t.Null t.none)) t.no_consts)) (t.next (t.Value (t.Built f.Log (t.also (t.Text (codes "no")) t.none))) t.end))).0 ≡ Left
options4-ends = refl

-- const v = new AsyncContext.Variable("text"); console.log("no");
options5 : shows_on Source 60 (t.next (t.Const (t.const_item (codes "v") (t.Built f.NewVariable (t.also (t.Text (codes "text")) t.none)) t.no_consts)) (t.next (t.Value (t.Built f.Log (t.also (t.Text (codes "no")) t.none))) t.end)) ≡ shows_on Plain 400 (low (t.next (t.Const (t.const_item (codes "v") (t.Built f.NewVariable (t.also (t.Text (codes "text")) t.none)) t.no_consts)) (t.next (t.Value (t.Built f.Log (t.also (t.Text (codes "no")) t.none))) t.end)))
options5 = refl

options5-ends : (shows_on Source 60 (t.next (t.Const (t.const_item (codes "v") (t.Built f.NewVariable (t.also (t.Text (codes "text")) t.none)) t.no_consts)) (t.next (t.Value (t.Built f.Log (t.also (t.Text (codes "no")) t.none))) t.end))).0 ≡ Left
options5-ends = refl

-- const v = new AsyncContext.Variable({ defaultValue: "d" }); v.run("x", () => { null.x; });
uncaught : shows_on Source 60 (t.next (t.Const (t.const_item (codes "v") (t.Built f.NewVariable (t.also (t.Object (t.property (t.Fixed (codes "defaultValue")) (t.Text (codes "d")) t.no_properties)) t.none)) t.no_consts)) (t.next (t.Value (t.Call (t.Member (t.Named (codes "v")) (t.Dot (codes "run"))) (t.also (t.Text (codes "x")) (t.also (t.Function (t.code None k.Arrow [] (t.next (t.Value (t.Member t.Null (t.Dot (codes "x")))) t.end))) t.none)))) t.end)) ≡ shows_on Plain 500 (low (t.next (t.Const (t.const_item (codes "v") (t.Built f.NewVariable (t.also (t.Object (t.property (t.Fixed (codes "defaultValue")) (t.Text (codes "d")) t.no_properties)) t.none)) t.no_consts)) (t.next (t.Value (t.Call (t.Member (t.Named (codes "v")) (t.Dot (codes "run"))) (t.also (t.Text (codes "x")) (t.also (t.Function (t.code None k.Arrow [] (t.next (t.Value (t.Member t.Null (t.Dot (codes "x")))) t.end))) t.none)))) t.end)))
uncaught = refl

-- const o = {}; o.defaultValue = "later"; const v = new AsyncContext.Variable(o); o.defaultValue = "no"; console.log(v.get());
-- let s = ""; for (let i = 0; i < 2; i++) { v.run("r", function () { s += v.get(); if (this === undefined) { s += "u"; } }); }
-- console.log(s);
made : shows_on Source 200 (t.next (t.Const (t.const_item (codes "o") (t.Object t.no_properties) t.no_consts)) (t.next (t.Value (t.SetMember (t.Named (codes "o")) (t.Dot (codes "defaultValue")) (t.Text (codes "later")))) (t.next (t.Const (t.const_item (codes "v") (t.Built f.NewVariable (t.also (t.Named (codes "o")) t.none)) t.no_consts)) (t.next (t.Value (t.SetMember (t.Named (codes "o")) (t.Dot (codes "defaultValue")) (t.Text (codes "no")))) (t.next (t.Value (t.Built f.Log (t.also (t.Call (t.Member (t.Named (codes "v")) (t.Dot (codes "get"))) t.none) t.none))) (t.next (t.Let (t.let_item (codes "s") (t.some_expr (t.Text (codes ""))) t.no_lets)) (t.next (t.For (t.init_let (t.let_item (codes "i") (t.some_expr (t.Num 0)) t.no_lets)) (t.some_expr (t.Binary o.Less (t.Named (codes "i")) (t.Num 2))) (t.some_expr (t.Bump (codes "i") true false)) (t.Block (t.next (t.Value (t.Call (t.Member (t.Named (codes "v")) (t.Dot (codes "run"))) (t.also (t.Text (codes "r")) (t.also (t.Function (t.code None k.Normal [] (t.next (t.Value (t.Change (codes "s") o.Add (t.Call (t.Member (t.Named (codes "v")) (t.Dot (codes "get"))) t.none))) (t.next (t.If (t.Binary o.Same t.This t.Undefined) (t.Block (t.next (t.Value (t.Change (codes "s") o.Add (t.Text (codes "u")))) t.end)) t.no_stmt) t.end)))) t.none)))) t.end))) (t.next (t.Value (t.Built f.Log (t.also (t.Named (codes "s")) t.none))) t.end)))))))) ≡ shows_on Plain 900 (low (t.next (t.Const (t.const_item (codes "o") (t.Object t.no_properties) t.no_consts)) (t.next (t.Value (t.SetMember (t.Named (codes "o")) (t.Dot (codes "defaultValue")) (t.Text (codes "later")))) (t.next (t.Const (t.const_item (codes "v") (t.Built f.NewVariable (t.also (t.Named (codes "o")) t.none)) t.no_consts)) (t.next (t.Value (t.SetMember (t.Named (codes "o")) (t.Dot (codes "defaultValue")) (t.Text (codes "no")))) (t.next (t.Value (t.Built f.Log (t.also (t.Call (t.Member (t.Named (codes "v")) (t.Dot (codes "get"))) t.none) t.none))) (t.next (t.Let (t.let_item (codes "s") (t.some_expr (t.Text (codes ""))) t.no_lets)) (t.next (t.For (t.init_let (t.let_item (codes "i") (t.some_expr (t.Num 0)) t.no_lets)) (t.some_expr (t.Binary o.Less (t.Named (codes "i")) (t.Num 2))) (t.some_expr (t.Bump (codes "i") true false)) (t.Block (t.next (t.Value (t.Call (t.Member (t.Named (codes "v")) (t.Dot (codes "run"))) (t.also (t.Text (codes "r")) (t.also (t.Function (t.code None k.Normal [] (t.next (t.Value (t.Change (codes "s") o.Add (t.Call (t.Member (t.Named (codes "v")) (t.Dot (codes "get"))) t.none))) (t.next (t.If (t.Binary o.Same t.This t.Undefined) (t.Block (t.next (t.Value (t.Change (codes "s") o.Add (t.Text (codes "u")))) t.end)) t.no_stmt) t.end)))) t.none)))) t.end))) (t.next (t.Value (t.Built f.Log (t.also (t.Named (codes "s")) t.none))) t.end)))))))))
made = refl

made-ends : (shows_on Source 200 (t.next (t.Const (t.const_item (codes "o") (t.Object t.no_properties) t.no_consts)) (t.next (t.Value (t.SetMember (t.Named (codes "o")) (t.Dot (codes "defaultValue")) (t.Text (codes "later")))) (t.next (t.Const (t.const_item (codes "v") (t.Built f.NewVariable (t.also (t.Named (codes "o")) t.none)) t.no_consts)) (t.next (t.Value (t.SetMember (t.Named (codes "o")) (t.Dot (codes "defaultValue")) (t.Text (codes "no")))) (t.next (t.Value (t.Built f.Log (t.also (t.Call (t.Member (t.Named (codes "v")) (t.Dot (codes "get"))) t.none) t.none))) (t.next (t.Let (t.let_item (codes "s") (t.some_expr (t.Text (codes ""))) t.no_lets)) (t.next (t.For (t.init_let (t.let_item (codes "i") (t.some_expr (t.Num 0)) t.no_lets)) (t.some_expr (t.Binary o.Less (t.Named (codes "i")) (t.Num 2))) (t.some_expr (t.Bump (codes "i") true false)) (t.Block (t.next (t.Value (t.Call (t.Member (t.Named (codes "v")) (t.Dot (codes "run"))) (t.also (t.Text (codes "r")) (t.also (t.Function (t.code None k.Normal [] (t.next (t.Value (t.Change (codes "s") o.Add (t.Call (t.Member (t.Named (codes "v")) (t.Dot (codes "get"))) t.none))) (t.next (t.If (t.Binary o.Same t.This t.Undefined) (t.Block (t.next (t.Value (t.Change (codes "s") o.Add (t.Text (codes "u")))) t.end)) t.no_stmt) t.end)))) t.none)))) t.end))) (t.next (t.Value (t.Built f.Log (t.also (t.Named (codes "s")) t.none))) t.end))))))))).0 ≡ Ended
made-ends = refl
