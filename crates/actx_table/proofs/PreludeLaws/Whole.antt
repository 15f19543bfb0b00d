-- The laws of the prelude's functions hold.
use Rattle.std.proofs.Common.{refl}
use Rattle.actx_table.specs.Laws.{Equal, Laws}
use Rattle.actx_table.proofs.PreludeLaws.Refused.{get_refuses_at, run_refuses_at}
use Rattle.actx_table.proofs.PreludeLaws.Gotten.{gets_at}
use Rattle.actx_table.proofs.PreludeLaws.Entered.{run_refuses_callee_at, enters_at}
use Rattle.actx_table.proofs.PreludeLaws.Departs.{departs_at}
use Rattle.actx_table.proofs.PreludeLaws.Options.{makes_alone_at, makes_unnamed_at, makes_named_at, null_quits_at, unread_quits_at, no_name_quits_at, alone_quits_at, unnamed_quits_at, named_quits_at}

pub laws : Laws
laws =
    record {
      get_refuses = get_refuses_at;
      run_refuses = run_refuses_at;
      run_refuses_callee = run_refuses_callee_at;
      gets = λ r self ws gs h k n e ms is g mi. gets_at Equal r self ws gs h k n e e ms is g refl mi;
      enters = λ r self ws gs h k n e ms is g tf mi. enters_at Equal r self ws gs h k n _ e ms is g tf refl mi;
      departs = departs_at;
      makes_alone = makes_alone_at;
      makes_unnamed = makes_unnamed_at;
      makes_named = makes_named_at;
      null_quits = null_quits_at;
      unread_quits = unread_quits_at;
      no_name_quits = no_name_quits_at;
      alone_quits = alone_quits_at;
      unnamed_quits = unnamed_quits_at;
      named_quits = named_quits_at;
    }
