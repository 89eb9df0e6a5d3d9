mod MemberLemmas
pub mod NodeLemmas
