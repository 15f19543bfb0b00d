use Rattle.actx_laws.proofs.SpellLaws as laws
use Rattle.actx_laws.proofs.laws.spelled_in_form.Goals as goal

pub returns : goal.returns
returns c = laws.spelled_in_form
