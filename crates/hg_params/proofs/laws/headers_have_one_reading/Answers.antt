use Rattle.hg_params.proofs.HeaderLaws.{one_value, no_fault, one_fault}
use Rattle.hg_params.proofs.laws.headers_have_one_reading.Goals as goal

pub returns : goal.returns
returns g c = λ bytes. record {
  one_value = one_value bytes;
  no_fault = no_fault bytes;
  one_fault = one_fault bytes;
}
