use Rattle.rsp_dis.proofs.Operands.{fields_back, bytes_quiet}
use Rattle.rsp_dis.proofs.laws.operands_are_read_back.Goals as goal

pub returns : goal.returns
returns c = record { fields = fields_back; bytes = bytes_quiet }
