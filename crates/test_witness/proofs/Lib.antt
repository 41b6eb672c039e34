mod SessionLemmas
mod WorkedLinks
mod WorkedCarriers
mod WorkedTerm
