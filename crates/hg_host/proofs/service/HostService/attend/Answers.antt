use Rattle.hg_host.proofs.service.HostService.attend.Goals as goal

-- it came back from this connection
pub leave-requires : goal.leave-requires
leave-requires g c = record {
  view = _;
  asked = _;
  said = _;
  before = _;
  input = _;
  left = _;
  out = _;
  sent = _;
  end = _;
  hosts = c.serve-client.ensures;
}
