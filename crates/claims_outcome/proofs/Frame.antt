-- No second outcome for the callable functions of `frame`, each over the contract that its own `ensures` generates.
-- Assumes nothing.
use mathlib.Core.Path.{◌∙◌, sym}
use Rattle.frame.specs.Collector.{adding}
use Rattle.frame.specs.Wire.{wrote}
use Rattle.claims_outcome.proofs.Outcome.{Once}
use Rattle.frame.proofs.collector.Collector.new.Reads as collector-Collector-new
use Rattle.frame.proofs.collector.Collector.new.Kinds as collector-Collector-new-kinds
use Rattle.frame.proofs.collector.Collector.restored.Reads as collector-Collector-restored
use Rattle.frame.proofs.collector.Collector.restored.Kinds as collector-Collector-restored-kinds
use Rattle.frame.proofs.collector.Collector.byte.Reads as collector-Collector-byte
use Rattle.frame.proofs.collector.Collector.byte.Kinds as collector-Collector-byte-kinds
use Rattle.frame.proofs.collector.Collector.add.Reads as collector-Collector-add
use Rattle.frame.proofs.collector.Collector.add.Kinds as collector-Collector-add-kinds
use Rattle.frame.proofs.collector.Collector.add_all.Reads as collector-Collector-add-all
use Rattle.frame.proofs.collector.Collector.add_all.Kinds as collector-Collector-add-all-kinds
use Rattle.frame.proofs.collector.Collector.gap.Reads as collector-Collector-gap
use Rattle.frame.proofs.collector.Collector.gap.Kinds as collector-Collector-gap-kinds
use Rattle.frame.proofs.collector.Collector.power_on.Reads as collector-Collector-power-on
use Rattle.frame.proofs.collector.Collector.power_on.Kinds as collector-Collector-power-on-kinds
use Rattle.frame.proofs.judgement.Judgement.is_good.Reads as judgement-Judgement-is-good
use Rattle.frame.proofs.judgement.Judgement.is_good.Kinds as judgement-Judgement-is-good-kinds
use Rattle.frame.proofs.judgement.Judgement.status.Reads as judgement-Judgement-status
use Rattle.frame.proofs.judgement.Judgement.status.Kinds as judgement-Judgement-status-kinds
use Rattle.frame.proofs.judgement.Judgement.fault.Reads as judgement-Judgement-fault
use Rattle.frame.proofs.judgement.Judgement.fault.Kinds as judgement-Judgement-fault-kinds
use Rattle.frame.proofs.judgement.judge.Reads as judgement-judge
use Rattle.frame.proofs.judgement.judge.Kinds as judgement-judge-kinds
use Rattle.frame.proofs.judgement.judge_fit.Reads as judgement-judge-fit
use Rattle.frame.proofs.judgement.judge_fit.Kinds as judgement-judge-fit-kinds
use Rattle.frame.proofs.sum.less8.Reads as sum-less8
use Rattle.frame.proofs.sum.less8.Kinds as sum-less8-kinds
use Rattle.frame.proofs.sum.less16.Reads as sum-less16
use Rattle.frame.proofs.sum.less16.Kinds as sum-less16-kinds
use Rattle.frame.proofs.sum.sum8.Reads as sum-sum8
use Rattle.frame.proofs.sum.sum8.Kinds as sum-sum8-kinds
use Rattle.frame.proofs.sum.sum16.Reads as sum-sum16
use Rattle.frame.proofs.sum.sum16.Kinds as sum-sum16-kinds
use Rattle.frame.proofs.wire.write_command.Reads as wire-write-command
use Rattle.frame.proofs.wire.write_command.Kinds as wire-write-command-kinds
use Rattle.frame.proofs.wire.write_data.Reads as wire-write-data
use Rattle.frame.proofs.wire.write_data.Kinds as wire-write-data-kinds
use Rattle.frame.proofs.wire.judge_reply.Reads as wire-judge-reply
use Rattle.frame.proofs.wire.judge_reply.Kinds as wire-judge-reply-kinds
use Rattle.frame.proofs.Header.byte.Reads as Header-byte
use Rattle.frame.proofs.Header.byte.Kinds as Header-byte-kinds
use Rattle.frame.proofs.Footer.byte.Reads as Footer-byte
use Rattle.frame.proofs.Footer.byte.Kinds as Footer-byte-kinds
use Rattle.frame.proofs.len_byte.Reads as len-byte
use Rattle.frame.proofs.len_byte.Kinds as len-byte-kinds
use Rattle.frame.proofs.counted.Reads as counted
use Rattle.frame.proofs.counted.Kinds as counted-kinds
use Rattle.frame.proofs.is_full.Reads as is-full
use Rattle.frame.proofs.is_full.Kinds as is-full-kinds
use Rattle.frame.proofs.lacking.Reads as lacking
use Rattle.frame.proofs.lacking.Kinds as lacking-kinds
use Rattle.frame.proofs.is_frame.Reads as is-frame
use Rattle.frame.proofs.is_frame.Kinds as is-frame-kinds
use Rattle.frame.proofs.payload.Reads as payload
use Rattle.frame.proofs.payload.Kinds as payload-kinds

pub collector-Collector-new-once : Once collector-Collector-new-kinds.ps collector-Collector-new-kinds.r collector-Collector-new.Post (λ κs r x. r)
collector-Collector-new-once κs a r s x y p q = p ∙ sym q

pub collector-Collector-restored-once : Once collector-Collector-restored-kinds.ps collector-Collector-restored-kinds.r collector-Collector-restored.Post (λ κs r x. r)
collector-Collector-restored-once κs a r s x y p q = p ∙ sym q

pub collector-Collector-byte-once : Once collector-Collector-byte-kinds.ps collector-Collector-byte-kinds.r collector-Collector-byte.Post (λ κs r x. r)
collector-Collector-byte-once κs a r s x y p q = p ∙ sym q

pub collector-Collector-add-once : Once collector-Collector-add-kinds.ps collector-Collector-add-kinds.r collector-Collector-add.Post (λ κs r x. adding r x.1.1.0.now)
collector-Collector-add-once κs a r s x y p q = p ∙ sym q

pub collector-Collector-add-all-once : Once collector-Collector-add-all-kinds.ps collector-Collector-add-all-kinds.r collector-Collector-add-all.Post (λ κs r x. r)
collector-Collector-add-all-once κs a r s x y p q = p ∙ sym q

pub collector-Collector-gap-once : Once collector-Collector-gap-kinds.ps collector-Collector-gap-kinds.r collector-Collector-gap.Post (λ κs r x. r)
collector-Collector-gap-once κs a r s x y p q = p ∙ sym q

pub collector-Collector-power-on-once : Once collector-Collector-power-on-kinds.ps collector-Collector-power-on-kinds.r collector-Collector-power-on.Post (λ κs r x. r)
collector-Collector-power-on-once κs a r s x y p q = p ∙ sym q

pub judgement-Judgement-is-good-once : Once judgement-Judgement-is-good-kinds.ps judgement-Judgement-is-good-kinds.r judgement-Judgement-is-good.Post (λ κs r x. r)
judgement-Judgement-is-good-once κs a r s x y p q = p ∙ sym q

pub judgement-Judgement-status-once : Once judgement-Judgement-status-kinds.ps judgement-Judgement-status-kinds.r judgement-Judgement-status.Post (λ κs r x. r)
judgement-Judgement-status-once κs a r s x y p q = p ∙ sym q

pub judgement-Judgement-fault-once : Once judgement-Judgement-fault-kinds.ps judgement-Judgement-fault-kinds.r judgement-Judgement-fault.Post (λ κs r x. r)
judgement-Judgement-fault-once κs a r s x y p q = p ∙ sym q

pub judgement-judge-once : Once judgement-judge-kinds.ps judgement-judge-kinds.r judgement-judge.Post (λ κs r x. r)
judgement-judge-once κs a r s x y p q = p ∙ sym q

pub judgement-judge-fit-once : Once judgement-judge-fit-kinds.ps judgement-judge-fit-kinds.r judgement-judge-fit.Post (λ κs r x. r)
judgement-judge-fit-once κs a r s x y p q = p ∙ sym q

pub sum-less8-once : Once sum-less8-kinds.ps sum-less8-kinds.r sum-less8.Post (λ κs r x. r)
sum-less8-once κs a r s x y p q = p ∙ sym q

pub sum-less16-once : Once sum-less16-kinds.ps sum-less16-kinds.r sum-less16.Post (λ κs r x. r)
sum-less16-once κs a r s x y p q = p ∙ sym q

pub sum-sum8-once : Once sum-sum8-kinds.ps sum-sum8-kinds.r sum-sum8.Post (λ κs r x. r)
sum-sum8-once κs a r s x y p q = p ∙ sym q

pub sum-sum16-once : Once sum-sum16-kinds.ps sum-sum16-kinds.r sum-sum16.Post (λ κs r x. r)
sum-sum16-once κs a r s x y p q = p ∙ sym q

pub wire-write-command-once : Once wire-write-command-kinds.ps wire-write-command-kinds.r wire-write-command.Post (λ κs r x. wrote r x.0.now)
wire-write-command-once κs a r s x y p q = p ∙ sym q

pub wire-write-data-once : Once wire-write-data-kinds.ps wire-write-data-kinds.r wire-write-data.Post (λ κs r x. wrote r x.0.now)
wire-write-data-once κs a r s x y p q = p ∙ sym q

pub wire-judge-reply-once : Once wire-judge-reply-kinds.ps wire-judge-reply-kinds.r wire-judge-reply.Post (λ κs r x. r)
wire-judge-reply-once κs a r s x y p q = p ∙ sym q

pub Header-byte-once : Once Header-byte-kinds.ps Header-byte-kinds.r Header-byte.Post (λ κs r x. r)
Header-byte-once κs a r s x y p q = p ∙ sym q

pub Footer-byte-once : Once Footer-byte-kinds.ps Footer-byte-kinds.r Footer-byte.Post (λ κs r x. r)
Footer-byte-once κs a r s x y p q = p ∙ sym q

pub len-byte-once : Once len-byte-kinds.ps len-byte-kinds.r len-byte.Post (λ κs r x. r)
len-byte-once κs a r s x y p q = p ∙ sym q

pub counted-once : Once counted-kinds.ps counted-kinds.r counted.Post (λ κs r x. r)
counted-once κs a r s x y p q = p ∙ sym q

pub is-full-once : Once is-full-kinds.ps is-full-kinds.r is-full.Post (λ κs r x. r)
is-full-once κs a r s x y p q = p ∙ sym q

pub lacking-once : Once lacking-kinds.ps lacking-kinds.r lacking.Post (λ κs r x. r)
lacking-once κs a r s x y p q = p ∙ sym q

pub is-frame-once : Once is-frame-kinds.ps is-frame-kinds.r is-frame.Post (λ κs r x. r)
is-frame-once κs a r s x y p q = p ∙ sym q

pub payload-once : Once payload-kinds.ps payload-kinds.r payload.Post (λ κs r x. r.now)
payload-once κs a r s x y p q = p ∙ sym q
