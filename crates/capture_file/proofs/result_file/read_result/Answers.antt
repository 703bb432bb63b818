use Rattle.capture_file.specs.Records.{records_of}
use Rattle.capture_file.specs.ResultText.{file_of}
use Rattle.capture_file.proofs.ReadAgain.{written_is}
use Rattle.capture_file.proofs.ResultWhole.{file_answers, file_refuses}
use Rattle.capture_file.proofs.result_file.read_result.Goals as goal

pub returns-clause-only : goal.returns-clause-only
returns-clause-only c =
    λ file h. file_answers c.args.format c.args.device.now c.args.bytes.now c.args.start
    c.read_records.result c.requires c.read_records.ensures.found c.read_records.ensures.fault file
    h

pub returns-clause-again : goal.returns-clause-again
returns-clause-again c =
    λ h fits text. file_answers c.args.format c.args.device.now c.args.bytes.now c.args.start
    c.read_records.result c.requires c.read_records.ensures.found c.read_records.ensures.fault
    (file_of c.args.format c.args.device.now c.args.start (records_of h))
    (written_is c.args.format c.args.device.now c.args.bytes.now c.args.start h fits text)

pub returns-clause-exact : goal.returns-clause-exact
returns-clause-exact c =
    λ place kind h. file_refuses c.args.format c.args.device.now c.args.bytes.now c.args.start
    c.read_records.result c.requires c.read_records.ensures.found c.read_records.ensures.fault place
    kind h
