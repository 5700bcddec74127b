use Rattle.certificate.proofs.Finished.{text_when_finished}
use Rattle.certificate.proofs.reading.Draft.finish.Goals as goal

pub returns : goal.returns
returns c =
    text_when_finished c.args.self.binds.items c.new-2.result c.args.self.eras.items c.push.new.self.items c.new-3.result c.args.self.places.items c.new.result c.requires.binds c.requires.places c.new-2.ensures c.new.ensures c.in_ok-push.ensures.items c.new-3.ensures
