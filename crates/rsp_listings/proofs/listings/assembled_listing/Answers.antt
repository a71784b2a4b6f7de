use Rattle.std.proofs.Common.{◌∙◌, inl, inr}
use Rattle.rsp_listings.proofs.Listed.{gives_words, gives_no_fault}
use Rattle.rsp_listings.proofs.listings.assembled_listing.Goals as goal

pub returns-in-Ok : goal.returns-in-Ok
returns-in-Ok c =
    gives_words c.args.origin c.requires.aligned _ c.args.words.now (c.deref.ensures ∙ c.in_ok-text.ensures) c.requires.room c.type_inv.words _ c.in-Ok.ensures.ok

pub unreachable-requires : goal.unreachable-requires
unreachable-requires c = elim c.in-Err.ensures.err [
  | inl meaning_of_text ↦ gives_no_fault c.args.origin c.requires.aligned _ c.args.words.now (c.deref.ensures ∙ c.in_ok-text.ensures) c.requires.room c.type_inv.words _ meaning_of_text
  | inr short ↦ c.in_default.not-OutOfMemory short.kind
]
