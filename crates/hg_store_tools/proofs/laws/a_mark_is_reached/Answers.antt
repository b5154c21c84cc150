use Rattle.hg_store_tools.proofs.Marked.{begun_so, led_so, mark_front, mark_rest}
use Rattle.hg_store_tools.proofs.laws.a_mark_is_reached.Goals as goal

pub returns-clause-rest : goal.returns-clause-rest
returns-clause-rest c = mark_rest

pub returns-clause-front : goal.returns-clause-front
returns-clause-front c = mark_front

pub returns-clause-led : goal.returns-clause-led
returns-clause-led c = led_so

pub returns-clause-begun : goal.returns-clause-begun
returns-clause-begun c = begun_so
