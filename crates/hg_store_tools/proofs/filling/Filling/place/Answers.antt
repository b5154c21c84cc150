use Rattle.std.proofs.Common.{List, false, true, ◌∷◌, ◌∙◌, ap}
use Rattle.std.specs.Result.{is_ok}
use Rattle.hg_store.specs.Calls.{Event, placed, synced}
use Rattle.hg_store_tools.specs.Filling.{Filled}
use Rattle.hg_store_tools.proofs.Fillings.{placed_whole, unsynced_whole}
use Rattle.hg_store_tools.proofs.filling.Filling.place.Goals as goal

pub returns-in-Err-clause-whole : goal.returns-in-Err-clause-whole
returns-in-Err-clause-whole g c bytes is =
    unsynced_whole bytes c.args.self.now (g.N.Calls.history c.sync.new.self) is
    (c.in-Err.ensures ∙ ap (λ (f : Filled). synced false ∷ f.calls) c.self.view_is)

pub returns-clause-whole : goal.returns-clause-whole
returns-clause-whole g c bytes is =
    placed_whole bytes c.args.self.now (g.N.Calls.history c.put_in_place.new.self) (is_ok c.put_in_place.result) is
    (c.put_in_place.ensures
    ∙ ap (λ (l : List Event). placed (is_ok c.put_in_place.result) ∷ l)
    (c.in-Ok.ensures ∙ ap (λ (f : Filled). synced true ∷ f.calls) c.self.view_is))
