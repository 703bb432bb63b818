use Rattle.channel_json.proofs.UuidLemmas.{unread}
use Rattle.channel_json.proofs.uuids.number_of.Goals as goal

pub returns-in-Err : goal.returns-in-Err
returns-in-Err c = unread _ c.parse_str.result _ _ c.in-Err.is c.parse_str.ensures.ok
