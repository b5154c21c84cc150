use Rattle.std.proofs.Common.{◌∙◌, sym, arith}
use Rattle.hg_wireproto.proofs.OrderedIds.{no_least, none_from, one_from, parts_of, several_from}
use Rattle.hg_wireproto.proofs.begun.begun_among.Goals as goal

pub lowest_of-requires : goal.lowest_of-requires
lowest_of-requires g c = let few = (parts_of c.args.key.now c.requires).0 in omega (arith, few)

pub returns-in_default : goal.returns-in_default
returns-in_default g c rows lawful held =
    no_least c.args.key.now c.requires rows lawful c.args.ids.now.keys held
    (sym c.lowest_of.ensures ∙ c.in_default.is)

pub returns-in_default-begun : goal.returns-in_default-begun
returns-in_default-begun g c rows lawful held =
    none_from c.args.key.now c.requires rows lawful c.args.ids.now.keys held c.in-Some.lowest c.next_id.result
    (sym c.lowest_of.ensures ∙ c.in-Some.is) c.next_id.ensures (sym c.begun.ensures ∙ c.in_default-begun.is)

pub returns-in-Some-begun-2 : goal.returns-in-Some-begun-2
returns-in-Some-begun-2 g c rows lawful held =
    several_from c.args.key.now c.requires rows lawful c.args.ids.now.keys held c.in-Some.lowest
    c.in-Some-begun.first c.next_id.result c.next_id-2.result (sym c.lowest_of.ensures ∙ c.in-Some.is)
    c.next_id.ensures (sym c.begun.ensures ∙ c.in-Some-begun.is) c.next_id-2.ensures c.in-Some-begun-2.field-0
    (sym c.begun-2.ensures ∙ c.in-Some-begun-2.is)

pub returns-in-None : goal.returns-in-None
returns-in-None g c rows lawful held =
    one_from c.args.key.now c.requires rows lawful c.args.ids.now.keys held c.in-Some.lowest
    c.in-Some-begun.first c.next_id.result c.next_id-2.result (sym c.lowest_of.ensures ∙ c.in-Some.is)
    c.next_id.ensures (sym c.begun.ensures ∙ c.in-Some-begun.is) c.next_id-2.ensures
    (sym c.begun-2.ensures ∙ c.in-None.is)
