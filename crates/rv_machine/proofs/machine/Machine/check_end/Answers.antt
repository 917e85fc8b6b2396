use Rattle.rv_machine.proofs.Carried.{home-of}
use Rattle.rv_machine.proofs.machine.Machine.check_end.Goals as goal

pub check_end-requires : goal.check_end-requires
check_end-requires c = record { home = home-of c.args.self.now.heap c.args.self.now.hart c.args.self.now.homely (cc) }
