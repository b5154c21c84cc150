use Rattle.hg_params.proofs.Pieces.{one_list, no_params_fault, one_params_fault}
use Rattle.hg_params.proofs.laws.stream_params_have_one_reading.Goals as goal

pub returns : goal.returns
returns g c = λ bytes. record {
  one_value = one_list bytes;
  no_fault = no_params_fault bytes;
  one_fault = one_params_fault bytes;
}
