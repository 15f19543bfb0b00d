-- The laws of the prelude's functions hold.
use Rattle.actx_rules.specs.Laws.{Laws}
use Rattle.actx_rules.proofs.PreludeLaws.Refused.{get_refuses_at, run_refuses_at}
use Rattle.actx_rules.proofs.PreludeLaws.Gotten.{gets_at}
use Rattle.actx_rules.proofs.PreludeLaws.Entered.{enters_at}
use Rattle.actx_rules.proofs.PreludeLaws.Departs.{departs_at}
use Rattle.actx_rules.proofs.PreludeLaws.Options.{makes_alone_at, makes_unnamed_at, makes_named_at, no_name_quits_at, alone_quits_at, unnamed_quits_at, named_quits_at}

pub laws : Laws
laws =
    record {
      get_refuses = get_refuses_at;
      run_refuses = run_refuses_at;
      gets = gets_at;
      enters = enters_at;
      departs = departs_at;
      makes_alone = makes_alone_at;
      makes_unnamed = makes_unnamed_at;
      makes_named = makes_named_at;
      no_name_quits = no_name_quits_at;
      alone_quits = alone_quits_at;
      unnamed_quits = unnamed_quits_at;
      named_quits = named_quits_at;
    }
