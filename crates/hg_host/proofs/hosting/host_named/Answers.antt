use Rattle.hg_host.proofs.hosting.host_named.Goals as goal

pub returns : goal.returns
returns g c = record {
  recovered = c.requires.recovered;
  clients = c.into_clients-clients.result.items;
  hosted = c.into_clients-clients.ensures.hosted;
  closes = c.close-left.ensures.left;
  serial = c.close-left.ensures.serial;
}
